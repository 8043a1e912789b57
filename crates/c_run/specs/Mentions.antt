-- What a unit says of objects of static life, in textual order.
-- It states docs/LANGUAGE.md, section Objects and places.
use Rattle.std.specs.Prelude.{ℕ, List, [], ◌∷◌, Option}
use Rattle.c_type.specs.Names.{Name}
use Rattle.c_type.specs.Types.{CType}
use Rattle.c_tree.specs.TExpr.{TExpr, TArgs, Ref, Ext}
use Rattle.c_tree.specs.TStmt as st
use Rattle.c_tree.specs.Gathered as g
use Rattle.c_tree.specs.Gathered.{Gathered}
use Rattle.c_tree.specs.TStmt.{Declr, Init, Inits, TStmt, TStmts, TItems, locals}
use Rattle.c_tree.specs.declared.typed_unit.Bound.TheVariants as bd
use Rattle.c_tree.specs.TUnit.{Enumerator, Spec, Mems, Item, ParDecl, TExt}
use Rattle.c_tree.specs.declared.typed_unit.Bound.{Bound}

-- a string text, a use of an external, its declaration under `extern`, static k with its initialiser, an external without `extern`
pub data Mention : Type 0 where
  Text : (k : ℕ) → Mention
  Use : (x : Name) → Mention
  Extern : (x : Name) → Mention
  Own : (k : ℕ) (t : CType) (i : Option Init) → Mention
  Outside : (x : Name) (t : CType) (i : Option Init) → Mention

-- a name that is an external is used
abbrev pub used : Ref → List Mention
used (Ext x) = Use x ∷ []
used _ = []

-- what a declarator at file level says by itself
abbrev pub said : Bound → Name → CType → Option Init → List Mention
said (bd.Own k) x t i = Own k t i ∷ []
said bd.Outside x t i = Outside x t i ∷ []
said bd.Elsewhere x t i = Extern x ∷ []
said bd.OwnFunction x t i = []
said bd.OutsideFunction x t i = []

-- a name that is an external, a text, and each object of static life that is declared
abbrev pub mentions : Gathered Mention
mentions = record {
  name = λ t r. used r;
  text = λ k. Text k ∷ [];
  call = λ f es. [];
  block_static = λ k t i. Own k t i ∷ [];
  block_extern = λ x t. Extern x ∷ [];
  block_function = λ s x t. [];
  file_item = said;
  body = λ f. [];
}

-- what each part of a unit mentions
abbrev pub in_expr : TExpr → List Mention
in_expr = g.in_expr mentions

abbrev pub in_args : TArgs → List Mention
in_args = g.in_args mentions

abbrev pub in_option : Option TExpr → List Mention
in_option = g.in_option mentions

abbrev pub in_declr : Declr → List Mention
in_declr = g.in_declr mentions

abbrev pub in_init : Init → List Mention
in_init = g.in_init mentions

abbrev pub in_inits : Inits → List Mention
in_inits = g.in_inits mentions

abbrev pub in_begin : Option Init → List Mention
in_begin = g.in_begin mentions

abbrev pub in_local : st.Local → List Mention
in_local = g.in_local mentions

abbrev pub in_stmt : TStmt → List Mention
in_stmt = g.in_stmt mentions

abbrev pub in_stmts : TStmts → List Mention
in_stmts = g.in_stmts mentions

abbrev pub in_items : TItems → List Mention
in_items = g.in_items mentions

abbrev pub in_enumerator : Enumerator → List Mention
in_enumerator = g.in_enumerator mentions

abbrev pub in_spec : Spec → List Mention
in_spec = g.in_spec mentions

abbrev pub in_mems : Mems → List Mention
in_mems = g.in_mems mentions

abbrev pub in_item : Item → List Mention
in_item = g.in_item mentions

abbrev pub in_pars : ParDecl → List Mention
in_pars = g.in_pars mentions

abbrev pub in_ext : TExt → List Mention
in_ext = g.in_ext mentions

abbrev pub in_exts : List TExt → List Mention
in_exts = g.in_exts mentions
