-- From an expression to its spellings.
--
-- A written expression also has the brackets and the line of each token. `plain` drops what the tree does not keep,
-- `level` gives the production's level, `IsLevelled` says that each part is what its place asks for, and `spell` gives
-- the tokens and then those that follow.
use Rattle.std.specs.Prelude.{◌≡◌, ℕ, ◌<◌, ◌≤◌, List, ◌∷◌, Bool, true, false}
use Rattle.c_type.specs.Names.{Name}
use Rattle.c_lex.specs.Tokens.{Token}
use Rattle.c_lex.specs.Tokens as k
use Rattle.c_grammar.specs.Words.{tok, mark, word, sizeof_word, open_round, close_round, open_square, close_square, comma_mark, dot_mark, arrow_mark, question, colon, assign_mark, binary_mark, binary_level, unary_mark, step_mark}
use Rattle.c_tree.specs.declared.expr.AssignOp.{AssignOp}
use Rattle.c_tree.specs.declared.expr.BinaryOp.{BinaryOp}
use Rattle.c_tree.specs.declared.expr.UnaryOp.{UnaryOp}
use Rattle.c_tree.specs.declared.expr.StepOp.{StepOp}
use Rattle.c_tree.specs.TreeExpr.{Expr, Exprs}
use Rattle.c_tree.specs.TreeExpr as t
use Rattle.c_grammar.specs.WrittenType.{WrittenName, is_typedef, plain_name, IsName, spell_name}

-- An expression with its brackets, the lines of its tokens being between its parts.
mutual
  pub data Written : Type 0 where
    comma : (a : Written) (l : ℕ) (b : Written) → Written
    assign : (a : Written) (l : ℕ) (op : AssignOp) (b : Written) → Written
    choice : (a : Written) (l : ℕ) (b : Written) (m : ℕ) (c : Written) → Written
    binary : (a : Written) (l : ℕ) (op : BinaryOp) (b : Written) → Written
    unary : (l : ℕ) (op : UnaryOp) (e : Written) → Written
    size_of : (l : ℕ) (e : Written) → Written
    size_of_type : (l m : ℕ) (y : WrittenName) (n : ℕ) → Written
    cast : (l : ℕ) (y : WrittenName) (m : ℕ) (e : Written) → Written
    index : (a : Written) (l : ℕ) (i : Written) (m : ℕ) → Written
    call : (f : Written) (l : ℕ) (es : Args) (m : ℕ) → Written
    member : (e : Written) (l m : ℕ) (x : Name) → Written
    arrow : (e : Written) (l m : ℕ) (x : Name) → Written
    post : (e : Written) (l : ℕ) (op : StepOp) → Written
    name : (l : ℕ) (x : Name) → Written
    int : (l n : ℕ) (long : Bool) → Written
    chr : (l n : ℕ) → Written
    text : (l : ℕ) (bytes : List ℕ) → Written
    bracket : (l : ℕ) (e : Written) (m : ℕ) → Written

  pub data Args : Type 0 where
    no_args : Args
    more_args : (e : Written) (es : Others) → Args

  -- each with the line of the comma before it
  pub data Others : Type 0 where
    no_others : Others
    more_others : (l : ℕ) (e : Written) (es : Others) → Others

-- the line of the first token
abbrev pub first : Written → ℕ
first (comma a l b) = first a
first (assign a l op b) = first a
first (choice a l b m c) = first a
first (binary a l op b) = first a
first (unary l op e) = l
first (size_of l e) = l
first (size_of_type l m y n) = l
first (cast l y m e) = l
first (index a l i m) = first a
first (call f l es m) = first f
first (member e l m x) = first e
first (arrow e l m x) = first e
first (post e l op) = first e
first (name l x) = l
first (int l n long) = l
first (chr l n) = l
first (text l bytes) = l
first (bracket l e m) = l

-- without its brackets
abbrev mutual
  pub plain : Written → Expr
  plain (comma a l b) = t.comma (first a) (plain a) (plain b)
  plain (assign a l op b) = t.assign (first a) op (plain a) (plain b)
  plain (choice a l b m c) = t.choice (first a) (plain a) (plain b) (plain c)
  plain (binary a l op b) = t.binary (first a) op (plain a) (plain b)
  plain (unary l op e) = t.unary l op (plain e)
  plain (size_of l e) = t.size_of l (plain e)
  plain (size_of_type l m y n) = t.size_of_type l (plain_name y)
  plain (cast l y m e) = t.cast l (plain_name y) (plain e)
  plain (index a l i m) = t.index (first a) (plain a) (plain i)
  plain (call f l es m) = t.call (first f) (plain f) (plains es)
  plain (member e l m x) = t.member (first e) (plain e) x
  plain (arrow e l m x) = t.arrow (first e) (plain e) x
  plain (post e l op) = t.post (first e) op (plain e)
  plain (name l x) = t.name l x
  plain (int l n long) = t.int l n long
  plain (chr l n) = t.chr l n
  plain (text l bytes) = t.text l bytes
  plain (bracket l e m) = plain e

  pub plains : Args → Exprs
  plains no_args = t.no_exprs
  plains (more_args e es) = t.more_exprs (plain e) (others es)

  pub others : Others → Exprs
  others no_others = t.no_exprs
  others (more_others l e es) = t.more_exprs (plain e) (others es)

-- the level of the production, from the loosest
abbrev pub level : Written → ℕ
level (comma a l b) = 1
level (assign a l op b) = 2
level (choice a l b m c) = 3
level (binary a l op b) = binary_level op
level (unary l op e) = 14
level (size_of l e) = 14
level (size_of_type l m y n) = 14
level (cast l y m e) = 14
level (index a l i m) = 15
level (call f l es m) = 15
level (member e l m x) = 15
level (arrow e l m x) = 15
level (post e l op) = 15
level (name l x) = 16
level (int l n long) = 16
level (chr l n) = 16
level (text l bytes) = 16
level (bracket l e m) = 16

abbrev pub is_cast : Written → Bool
is_cast (cast l y m e) = true
is_cast _ = false

-- Each part is of the level that its place asks for, or above it. A name is no typedef name. Behind `sizeof` a typename in
-- brackets belongs to the `sizeof`.
abbrev mutual
  pub IsLevelled : List Name → Written → Type 0
  IsLevelled defs (comma a l b) = (1 ≤ level a) × (2 ≤ level b) × IsLevelled defs a × IsLevelled defs b
  IsLevelled defs (assign a l op b) = (14 ≤ level a) × (2 ≤ level b) × IsLevelled defs a × IsLevelled defs b
  IsLevelled defs (choice a l b m c) = (4 ≤ level a) × (3 ≤ level c) × IsLevelled defs a × IsLevelled defs b × IsLevelled defs c
  IsLevelled defs (binary a l op b) = (binary_level op ≤ level a) × (binary_level op < level b) × IsLevelled defs a × IsLevelled defs b
  IsLevelled defs (unary l op e) = (14 ≤ level e) × IsLevelled defs e
  IsLevelled defs (size_of l e) = (is_cast e ≡ false) × (14 ≤ level e) × IsLevelled defs e
  IsLevelled defs (size_of_type l m y n) = IsName defs y
  IsLevelled defs (cast l y m e) = (14 ≤ level e) × IsName defs y × IsLevelled defs e
  IsLevelled defs (index a l i m) = (15 ≤ level a) × IsLevelled defs a × IsLevelled defs i
  IsLevelled defs (call f l es m) = (15 ≤ level f) × IsLevelled defs f × AreLevelled defs es
  IsLevelled defs (member e l m x) = (is_typedef defs x ≡ false) × (15 ≤ level e) × IsLevelled defs e
  IsLevelled defs (arrow e l m x) = (is_typedef defs x ≡ false) × (15 ≤ level e) × IsLevelled defs e
  IsLevelled defs (post e l op) = (15 ≤ level e) × IsLevelled defs e
  IsLevelled defs (name l x) = is_typedef defs x ≡ false
  IsLevelled defs (int l n long) = Unit {0}
  IsLevelled defs (chr l n) = Unit {0}
  IsLevelled defs (text l bytes) = Unit {0}
  IsLevelled defs (bracket l e m) = IsLevelled defs e

  pub AreLevelled : List Name → Args → Type 0
  AreLevelled defs no_args = Unit {0}
  AreLevelled defs (more_args e es) = (2 ≤ level e) × IsLevelled defs e × OthersLevelled defs es

  pub OthersLevelled : List Name → Others → Type 0
  OthersLevelled defs no_others = Unit {0}
  OthersLevelled defs (more_others l e es) = (2 ≤ level e) × IsLevelled defs e × OthersLevelled defs es

-- the tokens of the expression, and then the others
abbrev mutual
  pub spell : Written → List Token → List Token
  spell (comma a l b) after = spell a (mark l comma_mark ∷ spell b after)
  spell (assign a l op b) after = spell a (mark l (assign_mark op) ∷ spell b after)
  spell (choice a l b m c) after = spell a (mark l question ∷ spell b (mark m colon ∷ spell c after))
  spell (binary a l op b) after = spell a (mark l (binary_mark op) ∷ spell b after)
  spell (unary l op e) after = mark l (unary_mark op) ∷ spell e after
  spell (size_of l e) after = word l sizeof_word ∷ spell e after
  spell (size_of_type l m y n) after = word l sizeof_word ∷ mark m open_round ∷ spell_name y (mark n close_round ∷ after)
  spell (cast l y m e) after = mark l open_round ∷ spell_name y (mark m close_round ∷ spell e after)
  spell (index a l i m) after = spell a (mark l open_square ∷ spell i (mark m close_square ∷ after))
  spell (call f l es m) after = spell f (mark l open_round ∷ spell_args es (mark m close_round ∷ after))
  spell (member e l m x) after = spell e (mark l dot_mark ∷ tok m (k.name x) ∷ after)
  spell (arrow e l m x) after = spell e (mark l arrow_mark ∷ tok m (k.name x) ∷ after)
  spell (post e l op) after = spell e (mark l (step_mark op) ∷ after)
  spell (name l x) after = tok l (k.name x) ∷ after
  spell (int l n long) after = tok l (k.int n long) ∷ after
  spell (chr l n) after = tok l (k.chr n) ∷ after
  spell (text l bytes) after = tok l (k.text bytes) ∷ after
  spell (bracket l e m) after = mark l open_round ∷ spell e (mark m close_round ∷ after)

  pub spell_args : Args → List Token → List Token
  spell_args no_args after = after
  spell_args (more_args e es) after = spell e (spell_others es after)

  pub spell_others : Others → List Token → List Token
  spell_others no_others after = after
  spell_others (more_others l e es) after = mark l comma_mark ∷ spell e (spell_others es after)

-- The written expression is one of this level under these typedef names.
abbrev pub IsAtLevel : List Name → ℕ → Written → Type 0
IsAtLevel defs l e = (l ≤ level e) × IsLevelled defs e
