-- From tokens to the words before declarators, and to the bodies of tags.
use Rattle.std.specs.Prelude.{ℕ, zero, suc, ◌+◌, List, [], ◌∷◌, ◌++◌, length, Bool, true, false, nat_eq, ◌&&◌, Option, Some, None}
use Rattle.c_type.specs.Names.{Name, pick, or_else}
use Rattle.c_type.specs.declared.TagKind.{TagKind}
use Rattle.c_type.specs.declared.TagKind.TheVariants.{Struct, Union, Enum}
use Rattle.c_lex.specs.Tokens.{Tok, Token}
use Rattle.c_lex.specs.Tokens as k
use Rattle.c_tree.specs.declared.decl.Storage.{Storage}
use Rattle.c_tree.specs.declared.decl.Storage.TheVariants.{Auto, Register, Static, Extern}
use Rattle.c_grammar.specs.Words.{TypeWord, Unsigned, Char, Short, Long, Int, Void, open_brace, close_brace, semicolon, equals}
use Rattle.c_tree.specs.TreeExpr.{Expr}
use Rattle.c_tree.specs.TreeDecl.{Types, TagDef, Mem, Mems, En, def_depth, mem_depth, en_depth}
use Rattle.c_tree.specs.TreeDecl as t
use Rattle.c_grammar.specs.WrittenType.{TypePart, word_part, tag_part, name_part, is_typedef, spelled}
use Rattle.c_grammar.specs.WrittenDeclr.{plain_if}
use Rattle.c_grammar.specs.WrittenSpecs.{first_of, is_type, is_type_or_none}
use Rattle.c_expr.specs.Front.{Read, ◌>>=◌, eat, line_at, any_name, name_at, grown}
use Rattle.c_decl.specs.Separated.{separated}
use Rattle.c_decl.specs.ReadDeclr as r

-- what stands among the words
pub record Found : Type 0 where
  pub storages : List Storage
  pub typedefs : ℕ
  pub parts : List TypePart
  pub bodies : List TagDef

abbrev pub nothing : Found
nothing = record { storages = []; typedefs = 0; parts = []; bodies = [] }

-- what a token among the words begins
pub data Start : Type 0 where
  storage : (s : Storage) → Start
  typedef : Start
  typed : (w : TypeWord) → Start
  tag : (kind : TagKind) → Start
  named : (x : Name) → Start
  ends : Start

abbrev pub word_start : ℕ → Start
word_start w =
    pick (nat_eq w 0) (storage Auto) (pick (nat_eq w 14) (storage Register) (pick (nat_eq w 18) (storage Static) (pick (nat_eq w 9) (storage Extern)
    (pick (nat_eq w 21) typedef (pick (nat_eq w 22) (typed Unsigned) (pick (nat_eq w 3) (typed Char) (pick (nat_eq w 16) (typed Short) (pick (nat_eq w 13) (typed Long)
    (pick (nat_eq w 12) (typed Int) (pick (nat_eq w 23) (typed Void) (pick (nat_eq w 19) (tag Struct) (pick (nat_eq w 8) (tag Enum) ends))))))))))))

abbrev pub start_of : List Name → Tok → Start
start_of defs (k.name x) = pick (is_typedef defs x) (named x) ends
start_of defs (k.int n long) = ends
start_of defs (k.chr n) = ends
start_of defs (k.text bytes) = ends
start_of defs (k.word w) = word_start w
start_of defs (k.mark m) = ends

abbrev pub start_at : List Name → List Token → Start
start_at defs [] = ends
start_at defs (x ∷ ts) = start_of defs x.kind

abbrev pub behind : List Token → List Token
behind [] = []
behind (x ∷ ts) = ts

-- a word among those before declarators, or a tag's body among them
pub data Word : Type 0 where
  storage_word : (s : Storage) → Word
  typedef_word : Word
  type_part : (p : TypePart) → Word
  body_word : (d : TagDef) → Word

abbrev pub with_word : Word → Found → Found
with_word (storage_word s) f = record f { storages = s ∷ f.storages }
with_word typedef_word f = record f { typedefs = suc f.typedefs }
with_word (type_part p) f = record f { parts = p ∷ f.parts }
with_word (body_word d) f = record f { bodies = d ∷ f.bodies }

-- a word more, behind the others
abbrev pub and_word : Found → Word → Found
and_word f (storage_word s) = record f { storages = f.storages ++ s ∷ [] }
and_word f typedef_word = record f { typedefs = f.typedefs + 1 }
and_word f (type_part p) = record f { parts = f.parts ++ p ∷ [] }
and_word f (body_word d) = record f { bodies = f.bodies ++ d ∷ [] }

-- `body` reads a tag's body behind its opening brace: the line and the name stand before it.
module _ (defs : List Name) (body : TagKind → ℕ → Option Name → List Token → Read TagDef) where
  abbrev pub word_body : TagKind → ℕ → Option Name → List Token → Read (Option Word)
  word_body kind l x ts = body kind l x ts >>= λ d. Some (Some (body_word d.0), d.1)

  -- behind a tag's name
  abbrev pub tag_by : TagKind → ℕ → ℕ → Name → List Token → Option (List Token) → Read (Option Word)
  tag_by kind l m x ts (Some after) = word_body kind l (Some x) after
  tag_by kind l m x ts None = Some (Some (type_part (tag_part l kind m x)), ts)

  -- behind the word of a tag
  abbrev pub tagged_by : TagKind → ℕ → List Token → Read Name → Read (Option Word)
  tagged_by kind l ts (Some x) = tag_by kind l (line_at ts) x.0 x.1 (eat open_brace x.1)
  tagged_by kind l ts None = eat open_brace ts >>= λ after. word_body kind l None after

  abbrev pub word_by : ℕ → List Token → List Token → Start → Read (Option Word)
  word_by l ts whole (storage s) = Some (Some (storage_word s), ts)
  word_by l ts whole typedef = Some (Some typedef_word, ts)
  word_by l ts whole (typed w) = Some (Some (type_part (word_part l w)), ts)
  word_by l ts whole (tag kind) = tagged_by kind l ts (any_name ts)
  word_by l ts whole (named x) = Some (Some (type_part (name_part l x)), ts)
  word_by l ts whole ends = Some (None, whole)

  -- the word at the front, or none where none stands there
  abbrev pub word : List Token → Read (Option Word)
  word ts = word_by (line_at ts) (behind ts) ts (start_at defs ts)

  abbrev pub words_by : (List Token → Read Found) → Option Word → List Token → Read Found
  words_by more None ts = Some (nothing, ts)
  words_by more (Some w) ts = more ts >>= λ f. Some (with_word w f.0, f.1)

  -- the words at the front, as many as there are
  unfoldable pub words : ℕ → List Token → Read Found
  words zero ts = None
  words (suc k) ts = word ts >>= λ w. words_by (words k) w.0 w.1

-- no body
abbrev pub no_body : TagKind → ℕ → Option Name → List Token → Read TagDef
no_body kind l x ts = None

abbrev pub types_found : Found → Option Types
types_found f = or_else (plain_if t.def (first_of f.bodies)) (plain_if t.spec (spelled f.parts))

-- the type of the bodies and parts, where they are one type or none
abbrev pub one_type : List TagDef → List TypePart → Option (Option Types)
one_type ds ps = pick (is_type_or_none (length ds) ps) (Some (or_else (plain_if t.def (first_of ds)) (plain_if t.spec (spelled ps)))) None

abbrev pub no_storage : List Storage → Bool
no_storage [] = true
no_storage (s ∷ ss) = false

-- the type, where it stands alone
abbrev pub only_types : Found → Option Types
only_types f = pick (no_storage f.storages && (nat_eq f.typedefs 0 && is_type (length f.bodies) f.parts)) (types_found f) None

module _ (defs : List Name) (most : ℕ) (expr : ℕ → List Token → Read Expr) where
  abbrev pub en_by : ℕ → Name → List Token → Option (List Token) → Read En
  en_by l x ts None = grown en_depth most (record { line = l; name = x; value = None }) ts
  en_by l x ts (Some after) = expr 3 after >>= λ e. grown en_depth most (record { line = l; name = x; value = Some e.0 }) e.1

  abbrev pub en : List Token → Read En
  en ts = name_at defs ts >>= λ x. en_by (line_at ts) x.0 x.1 (eat equals x.1)

  -- an enumeration behind its opening brace
  abbrev pub enum_by : ℕ → Option Name → List Token → Read TagDef
  enum_by l x ts = separated en (length ts) ts >>= λ es. eat close_brace es.1 >>= λ after. grown def_depth most (t.enum l x es.0) after

  -- a declaration of members behind its words
  abbrev pub mem_by : ℕ → Option Types → List Token → Read Mem
  mem_by l None ts = None
  mem_by l (Some y) ts =
      separated (r.plain_declr defs most expr) (length ts) ts >>= λ ds. eat semicolon ds.1 >>= λ after. grown mem_depth most (t.mem l y ds.0) after

  module _ (inner : List Token → Read Found) where
    abbrev pub mem : List Token → Read Mem
    mem ts = inner ts >>= λ f. mem_by (line_at ts) (only_types f.0) f.1

    abbrev pub mems_by : (List Token → Read Mems) → Mem → List Token → Option (List Token) → Read Mems
    mems_by more m ts (Some after) = Some (t.more_mems m t.no_mems, after)
    mems_by more m ts None = more ts >>= λ ms. Some (t.more_mems m ms.0, ms.1)

    unfoldable pub mems : ℕ → List Token → Read Mems
    mems zero ts = None
    mems (suc k) ts = mem ts >>= λ m. mems_by (mems k) m.0 m.1 (eat close_brace m.1)

    abbrev pub body_by : TagKind → ℕ → Option Name → List Token → Read TagDef
    body_by Struct l x ts = mems (length ts) ts >>= λ ms. grown def_depth most (t.struct l x ms.0) ms.1
    body_by Union l x ts = None
    body_by Enum l x ts = enum_by l x ts

  -- The words outside of blocks. The number bounds how deep bodies stand in one another.
  unfoldable pub file_words : ℕ → List Token → Read Found
  file_words zero ts = words defs no_body (suc (length ts)) ts
  file_words (suc n) ts = words defs (body_by (file_words n)) (suc (length ts)) ts

  -- a tag's body, in which fewer bodies stand in one another than the number
  abbrev pub body_at : ℕ → TagKind → ℕ → Option Name → List Token → Read TagDef
  body_at zero kind l x ts = None
  body_at (suc n) kind l x ts = body_by (file_words n) kind l x ts

  -- each body takes two brackets, so that the number of the tokens is enough
  abbrev pub file_words_at : List Token → Read Found
  file_words_at ts = file_words (length ts) ts
