-- Which trees tokens spell: an expression, a declaration, a unit.
use Rattle.std.specs.Prelude.{◌≡◌, ℕ, suc, ◌-◌, ◌≤◌, List, [], ◌∷◌, length, drop, Bool, true, false, nat_eq, ◌||◌, ◌&&◌}
use Rattle.c_type.specs.Names.{Name}
use Rattle.c_lex.specs.Tokens.{Tok, Token}
use Rattle.c_lex.specs.Tokens as k
use Rattle.c_lex.specs.Falls.{Falls}
use Rattle.c_grammar.specs.Words.{open_round, close_round, open_square, close_square, open_brace, close_brace, comma_mark, semicolon, colon}
use Rattle.c_tree.specs.TreeExpr.{Expr, expr_depth}
use Rattle.c_tree.specs.TreeDecl.{LocalDecl, local_depth}
use Rattle.c_tree.specs.TreeUnit.{Ext, FuncHead, ext_depth, head_depth, unit_depth}
use Rattle.c_tree.specs.TreeUnit as t
use Rattle.c_grammar.specs.WrittenExpr.{Written, IsAtLevel}
use Rattle.c_grammar.specs.WrittenExpr as w
use Rattle.c_grammar.specs.WrittenDecl.{WrittenLocal, plain_local, IsLocal, spell_local}
use Rattle.c_grammar.specs.WrittenUnit.{WrittenExt, WrittenHead, typedef, tag_only, object, func, plain_ext, plain_head, IsExt, IsFuncHead, spell_ext, spell_head, AreExts, spell_exts, plain_unit}

-- the greatest depth of a tree, and the greatest number of brackets that are open at a token
abbrev pub most : ℕ
most = 200

-- ---- units

abbrev pub is_opening : Tok → Bool
is_opening (k.mark m) = nat_eq m open_round || (nat_eq m open_square || nat_eq m open_brace)
is_opening _ = false

abbrev pub is_closing : Tok → Bool
is_closing (k.mark m) = nat_eq m close_round || (nat_eq m close_square || nat_eq m close_brace)
is_closing _ = false

-- how many brackets are open at the token, where so many were open before it
abbrev pub opened : ℕ → Token → ℕ
opened n x = opened_by n (is_opening x.kind) (is_closing x.kind)
  where
    opened_by : ℕ → Bool → Bool → ℕ
    opened_by n true closing = suc n
    opened_by n false true = n - 1
    opened_by n false false = n

-- At no token are more brackets open than the greatest number, where so many are open before the first one.
abbrev pub AreShallow : ℕ → List Token → Type 0
AreShallow n [] = Unit {0}
AreShallow n (x ∷ ts) = (opened n x ≤ most) × AreShallow (opened n x) ts

-- The tokens in order are a spelling of the unit, which is not too deep.
pub record ReadsTokens (ts : List Token) (u : t.Unit) : Type 0 where
  pub written : List WrittenExt
  pub levelled : AreExts [] written
  pub plain_is : plain_unit written ≡ u
  pub tokens : ts ≡ spell_exts written []
  pub low : unit_depth u ≤ most
  pub shallow : AreShallow 0 ts

-- The text falls into tokens that are a spelling of the unit.
pub record Reads (bytes : List ℕ) (u : t.Unit) : Type 0 where
  pub tokens : List Token
  pub falls : Falls bytes tokens
  pub reads : ReadsTokens tokens u

-- ---- parts

-- The tokens begin with a spelling of the expression, and then the others come.
pub record Spells (defs : List Name) (l : ℕ) (e : Expr) (ts after : List Token) : Type 0 where
  pub written : Written
  pub levelled : IsAtLevel defs l written
  pub plain_is : w.plain written ≡ e
  pub tokens : ts ≡ w.spell written after

-- a mark that may stand behind an expression of the level
abbrev pub may_follow : ℕ → List Token → Bool
may_follow l [] = false
may_follow l (x ∷ ts) = ends_at l x.kind
  where
    ends_at : ℕ → Tok → Bool
    ends_at l (k.mark m) = nat_eq m close_round || (nat_eq m close_square || (nat_eq m semicolon || (nat_eq m colon || ((nat_eq l 2 || nat_eq l 3) && (nat_eq m comma_mark || nat_eq m close_brace)))))
    ends_at l _ = false

-- An expression of the level spells the tokens from `at` up to k, where a mark stands that ends it.
pub record IsExprAt (defs : List Name) (l : ℕ) (ts : List Token) (at : ℕ) (e : Expr) (k : ℕ) : Type 0 where
  pub spells : Spells defs l e (drop at ts) (drop k ts)
  pub low : expr_depth e ≤ most
  pub within : k ≤ length ts
  pub follows : may_follow l (drop k ts) ≡ true

-- A declaration in a block spells the tokens from `at` up to k.
pub record IsLocalAt (defs : List Name) (ts : List Token) (at : ℕ) (d : LocalDecl) (k : ℕ) : Type 0 where
  pub written : WrittenLocal
  pub levelled : IsLocal defs written
  pub plain_is : plain_local written ≡ d
  pub tokens : drop at ts ≡ spell_local written (drop k ts)
  pub low : local_depth d ≤ most
  pub within : k ≤ length ts

-- no function
abbrev pub is_declaration : WrittenExt → Bool
is_declaration (typedef ps ds l) = true
is_declaration (tag_only g l) = true
is_declaration (object ps is l) = true
is_declaration (func h b) = false

-- A declaration outside of blocks spells the tokens from `at` up to k, its semicolon being the last.
pub record IsDeclarationAt (defs : List Name) (ts : List Token) (at : ℕ) (e : Ext) (k : ℕ) : Type 0 where
  pub written : WrittenExt
  pub levelled : IsExt defs written
  pub no_function : is_declaration written ≡ true
  pub plain_is : plain_ext written ≡ e
  pub tokens : drop at ts ≡ spell_ext written (drop k ts)
  pub low : ext_depth e ≤ most
  pub within : k ≤ length ts

abbrev pub is_brace : Tok → Bool
is_brace (k.name x) = false
is_brace (k.int n long) = false
is_brace (k.chr n) = false
is_brace (k.text bytes) = false
is_brace (k.word w) = false
is_brace (k.mark m) = nat_eq m open_brace

-- a block begins
abbrev pub begins_block : List Token → Bool
begins_block [] = false
begins_block (x ∷ ts) = is_brace x.kind

-- The head of a function spells the tokens from `at` up to k, where its block begins.
pub record IsHeadAt (defs : List Name) (ts : List Token) (at : ℕ) (h : FuncHead) (k : ℕ) : Type 0 where
  pub written : WrittenHead
  pub levelled : IsFuncHead defs written
  pub plain_is : plain_head written ≡ h
  pub tokens : drop at ts ≡ spell_head written (drop k ts)
  pub block : begins_block (drop k ts) ≡ true
  pub low : head_depth h ≤ most
  pub within : k ≤ length ts
