-- From tokens to the declarations of parameters, in blocks and outside of blocks.
use Rattle.std.specs.Prelude.{ℕ, zero, suc, List, [], ◌∷◌, length, Bool, true, false, nat_eq, ◌&&◌, ◌||◌, Option, Some, None}
use Rattle.c_type.specs.Names.{Name, pick}
use Rattle.c_lex.specs.Tokens.{Tok, Token}
use Rattle.c_lex.specs.Tokens as k
use Rattle.c_tree.specs.declared.decl.Storage.{Storage}
use Rattle.c_grammar.specs.Words.{open_brace, comma_mark, semicolon, equals, register_word}
use Rattle.c_tree.specs.TreeExpr.{Expr}
use Rattle.c_tree.specs.TreeDecl.{Types, TagDef, TagSpec, FileSpecs, LocalSpecs, ParDecl, LocalDecl, Declr, par_depth, local_depth}
use Rattle.c_tree.specs.TreeDecl as t
use Rattle.c_tree.specs.TreeUnit.{Ext, FuncHead, ext_depth, head_depth}
use Rattle.c_tree.specs.TreeUnit as u
use Rattle.c_decl.specs.Named.{declares_function}
use Rattle.c_grammar.specs.WrittenType.{TypePart, word_part, tag_part, name_part, spelled}
use Rattle.c_grammar.specs.WrittenSpecs.{first_of, is_type_or_none, is_file_storage}
use Rattle.c_grammar.specs.WrittenDecl.{is_at_most_one}
use Rattle.c_expr.specs.Front.{Read, ◌>>=◌, eat, eat_word, line_at, grown}
use Rattle.c_decl.specs.Separated.{separated}
use Rattle.c_decl.specs.ReadDeclr as r
use Rattle.c_decl.specs.ReadInit as i
use Rattle.c_decl.specs.ReadSpecs.{Found, no_body, types_found, no_storage, only_types}
use Rattle.c_decl.specs.ReadSpecs as s

-- ---- what the words say

abbrev pub is_any : List Storage → List TypePart → List TagDef → Bool
is_any [] [] [] = false
is_any [] [] (d ∷ ds) = true
is_any [] (p ∷ ps) ds = true
is_any (c ∷ cs) ps ds = true

-- the words of a declaration in a block
abbrev pub local_specs : Found → Option LocalSpecs
local_specs f =
    pick (is_any f.storages f.parts [] && (nat_eq f.typedefs 0 && (nat_eq (length f.bodies) 0 && (is_at_most_one f.storages && is_type_or_none 0 f.parts)))) (Some (record { storage = first_of f.storages; types = spelled f.parts })) None

-- the words of objects or a function
abbrev pub file_specs : Found → Option FileSpecs
file_specs f =
    pick (is_any f.storages f.parts f.bodies && (nat_eq f.typedefs 0 && (is_file_storage f.storages && is_type_or_none (length f.bodies) f.parts)))
    (Some (record { storage = first_of f.storages; types = types_found f })) None

-- the type of a typedef
abbrev pub typedef_types : Found → Option (Option Types)
typedef_types f = pick (no_storage f.storages && (nat_eq f.typedefs 1 && is_type_or_none (length f.bodies) f.parts)) (Some (types_found f)) None

abbrev pub tag_of : List TypePart → List TagDef → Option TagSpec
tag_of [] [] = None
tag_of [] (d ∷ []) = Some (t.body d)
tag_of [] (d ∷ e ∷ ds) = None
tag_of (word_part l w ∷ ps) ds = None
tag_of (name_part l x ∷ ps) ds = None
tag_of (tag_part l kind m x ∷ []) [] = Some (t.ref (record { line = l; kind = kind; name = x }))
tag_of (tag_part l kind m x ∷ []) (d ∷ ds) = None
tag_of (tag_part l kind m x ∷ p ∷ ps) ds = None

-- a tag alone
abbrev pub only_tag : Found → Option TagSpec
only_tag f = pick (no_storage f.storages && nat_eq f.typedefs 0) (tag_of f.parts f.bodies) None

-- the words of a function, of which there may be none
abbrev pub head_specs_by : Bool → Option FileSpecs → Option (Option FileSpecs)
head_specs_by false s = Some None
head_specs_by true None = None
head_specs_by true (Some s) = Some (Some s)

abbrev pub head_specs : Found → Option (Option FileSpecs)
head_specs f = pick (nat_eq f.typedefs 0) (head_specs_by (is_any f.storages f.parts f.bodies) (file_specs f)) None

-- ---- what a declarator says

abbrev pub goes_on : Tok → Bool
goes_on (k.name x) = false
goes_on (k.int n long) = false
goes_on (k.chr n) = false
goes_on (k.text bytes) = false
goes_on (k.word w) = false
goes_on (k.mark m) = nat_eq m equals || (nat_eq m comma_mark || nat_eq m semicolon)

-- an object's declarator stands before these tokens, and no function's
abbrev pub is_item : List Token → Bool
is_item [] = false
is_item (x ∷ ts) = goes_on x.kind

-- what is read outside of blocks: a whole declaration, or a function up to its block
pub data Outside : Type 0 where
  whole : (e : Ext) → Outside
  head : (h : FuncHead) → Outside

abbrev pub whole_at : Read Ext → Read Outside
whole_at None = None
whole_at (Some e) = Some (whole e.0, e.1)

abbrev pub head_at : Read FuncHead → Read Outside
head_at None = None
head_at (Some h) = Some (head h.0, h.1)

module _ (defs : List Name) (most : ℕ) (expr : ℕ → List Token → Read Expr) where
  -- ---- parameters

  abbrev pub par_by : ℕ → Bool → Option Types → List Token → Read ParDecl
  par_by l register None ts = None
  par_by l register (Some y) ts =
      separated (r.plain_declr defs most expr) (length ts) ts >>= λ ds. eat semicolon ds.1 >>= λ after.
      grown par_depth most (record { line = l; register = register; types = y; declrs = ds.0 }) after

  abbrev pub par_behind : ℕ → Bool → List Token → Read ParDecl
  par_behind l register ts = s.file_words_at defs most expr ts >>= λ f. par_by l register (only_types f.0) f.1

  abbrev pub register_by : List Token → Option (List Token) → Read ParDecl
  register_by ts (Some after) = par_behind (line_at ts) true after
  register_by ts None = par_behind (line_at ts) false ts

  abbrev pub par : List Token → Read ParDecl
  par ts = register_by ts (eat_word register_word ts)

  abbrev pub pars_by : (List Token → Read (List ParDecl)) → List Token → Option (List Token) → Read (List ParDecl)
  pars_by more ts (Some after) = Some ([], ts)
  pars_by more ts None = par ts >>= λ p. more p.1 >>= λ ps. Some (p.0 ∷ ps.0, ps.1)

  -- the declarations of parameters up to the block
  unfoldable pub pars : ℕ → List Token → Read (List ParDecl)
  pars zero ts = None
  pars (suc k) ts = pars_by (pars k) ts (eat open_brace ts)

  -- ---- declarations in a block

  abbrev pub local_by : ℕ → Option LocalSpecs → List Token → Read LocalDecl
  local_by l None ts = None
  local_by l (Some c) ts =
      separated (i.item defs most expr) (length ts) ts >>= λ is. eat semicolon is.1 >>= λ after. grown local_depth most (record { line = l; specs = c; items = is.0 }) after

  abbrev pub local : List Token → Read LocalDecl
  local ts = s.words defs no_body (suc (length ts)) ts >>= λ f. local_by (line_at ts) (local_specs f.0) f.1

  -- ---- declarations outside of blocks

  abbrev pub tag_only_by : ℕ → Option TagSpec → List Token → Read Ext
  tag_only_by l None ts = None
  tag_only_by l (Some g) ts = grown ext_depth most (u.tag_only l g) ts

  abbrev pub typedef_by : ℕ → Option (Option Types) → List Token → Read Ext
  typedef_by l None ts = None
  typedef_by l (Some y) ts =
      separated (r.plain_declr defs most expr) (length ts) ts >>= λ ds. eat semicolon ds.1 >>= λ after. grown ext_depth most (u.typedef l y ds.0) after

  abbrev pub object_by : ℕ → Option FileSpecs → List Token → Read Ext
  object_by l None ts = None
  object_by l (Some c) ts =
      separated (i.item defs most expr) (length ts) ts >>= λ is. eat semicolon is.1 >>= λ after. grown ext_depth most (u.object l c is.0) after

  abbrev pub head_by : ℕ → Option (Option FileSpecs) → Declr → List Token → Read FuncHead
  head_by l None d ts = None
  head_by l (Some c) d ts = pars (suc (length ts)) ts >>= λ ps. grown head_depth most (record { line = l; specs = c; declr = d; params = ps.0 }) ps.1

  -- behind the words and the first declarator: an object, or the head of a function
  abbrev pub declared_by : ℕ → Found → List Token → Declr → List Token → Bool → Read Outside
  declared_by l f ts d rest true = whole_at (object_by l (file_specs f) ts)
  declared_by l f ts d rest false = head_at (head_by l (pick (declares_function d) (head_specs f) None) d rest)

  -- behind the words of a declaration, which has a `typedef` or not
  abbrev pub typed_by : ℕ → Found → List Token → Bool → Read Outside
  typed_by l f ts false = whole_at (typedef_by l (typedef_types f) ts)
  typed_by l f ts true = r.loose_declr defs most expr ts >>= λ d. declared_by l f ts d.0 d.1 (is_item d.1)

  abbrev pub outside_by : ℕ → Found → List Token → Option (List Token) → Read Outside
  outside_by l f ts (Some after) = whole_at (tag_only_by l (only_tag f) after)
  outside_by l f ts None = typed_by l f ts (nat_eq f.typedefs 0)

  -- a declaration up to and with its semicolon, or the head of a function up to its block
  abbrev pub outside : List Token → Read Outside
  outside ts = s.file_words_at defs most expr ts >>= λ f. outside_by (line_at ts) f.0 f.1 (eat semicolon f.1)
