-- An expression that is spelled is read.
use Rattle.std.proofs.Common.{◌≡◌, ℕ, ◌+◌, ◌-◌, ◌<◌, ◌≤◌, max, zero, suc, List, [], ◌∷◌, length, Some, None, Bool, true, false, nat_lt, ◌||◌, refl, arith, ap, sym, ◌∙◌}
use Rattle.std.proofs.lemmas.Bool.{le-ltb, ltb-true, ltb-false, eqb-true}
use Rattle.c_type.specs.Names.{Name, pick}
use Rattle.c_lex.specs.Tokens.{Tok, Token}
use Rattle.c_lex.specs.Tokens as k
use Rattle.c_tree.specs.declared.expr.BinaryOp.{BinaryOp}
use Rattle.c_grammar.specs.Words.{tok, mark, binary_level, binary_mark, assign_mark, unary_of, step_mark}
use Rattle.c_tree.specs.TreeExpr.{Expr, Exprs, expr_depth, exprs_depth}
use Rattle.c_tree.specs.TreeExpr as t
use Rattle.c_grammar.specs.WrittenType.{is_typedef}
use Rattle.c_grammar.specs.WrittenExpr.{Written, Args, Others, first, plain, plains, level, is_cast, IsLevelled, AreLevelled, OthersLevelled, spell, spell_args, spell_others}
use Rattle.c_grammar.specs.WrittenExpr as w
use Rattle.c_expr.specs.Front.{Read, ◌>>=◌, eat, eat_word, grown, front_mark}
use Rattle.c_expr.specs.Typename.{type_bracket, begins_type, begins_tok, type_word_of, tag_of, is_there}
use Rattle.c_expr.specs.Reading.{operator_at, assigned_at, choice_at, comma_at}
use Rattle.c_expr.specs.Reading as r
use Rattle.c_expr.specs.Ends.{Ends, nest, nests}
use Rattle.c_expr.proofs.Taken.{some_is}
use Rattle.c_expr.proofs.Fronts.{grown_again, is_start, starts, expr_starts, no_mark, line_first, expr_longer}
use Rattle.c_expr.proofs.Levels.{binary_range, level_range, bracket_again}
use Rattle.c_expr.proofs.TypeAgain.{typed_again}
use Rattle.c_expr.proofs.Marks.{unary_again, unary_not_open, step_is, assign_again, high_operator, ends_above, ends_at_prefix, ends_before_binary, ends_before_assign, not_assigned, choice_not_assigned, ends_before_close, ends_before_square, ends_before_colon, ends_before_comma, ends_before_choice}

-- ---- loops: how many turns stand before those that are left
abbrev suffixed : Written → ℕ → ℕ
suffixed (w.index x l1 i m) k = suffixed x (suc k)
suffixed (w.call f l1 es m) k = suffixed f (suc k)
suffixed (w.member e l1 m x) k = suffixed e (suc k)
suffixed (w.arrow e l1 m x) k = suffixed e (suc k)
suffixed (w.post e l1 op) k = suffixed e (suc k)
suffixed _ k = k

abbrev climbed : Written → ℕ → ℕ
climbed (w.binary x l1 op y) k = climbed x (suc k)
climbed _ k = k

abbrev commaed : Written → ℕ → ℕ
commaed (w.comma x l1 y) k = commaed x (suc k)
commaed _ k = k

deep : (e : Expr) → 1 ≤ expr_depth e
deep (t.comma l1 x y) = omega arith
deep (t.assign l1 op x y) = omega arith
deep (t.choice l1 x y z) = omega arith
deep (t.binary l1 op x y) = omega arith
deep (t.unary l1 op e) = omega arith
deep (t.size_of l1 e) = omega arith
deep (t.size_of_type l1 y) = omega arith
deep (t.cast l1 y e) = omega arith
deep (t.index l1 x i) = omega arith
deep (t.call l1 f es) = omega arith
deep (t.member l1 e x) = omega arith
deep (t.arrow l1 e x) = omega arith
deep (t.post l1 op e) = omega arith
deep (t.name l1 x) = omega arith
deep (t.int l1 n1 long) = omega arith
deep (t.chr l1 n1) = omega arith
deep (t.text l1 bytes) = omega arith

nest_positive : (e : Written) → 1 ≤ nest e
nest_positive (w.comma x l1 y) = omega arith
nest_positive (w.assign x l1 op y) = omega arith
nest_positive (w.choice x l1 y m z) = omega arith
nest_positive (w.binary x l1 op y) = omega arith
nest_positive (w.unary l1 op e) = omega arith
nest_positive (w.size_of l1 e) = omega arith
nest_positive (w.size_of_type l1 m y n1) = omega arith
nest_positive (w.cast l1 y m e) = omega arith
nest_positive (w.index x l1 i m) = omega arith
nest_positive (w.call f l1 es m) = omega arith
nest_positive (w.member e l1 m x) = omega arith
nest_positive (w.arrow e l1 m x) = omega arith
nest_positive (w.post e l1 op) = omega arith
nest_positive (w.name l1 x) = omega arith
nest_positive (w.int l1 n1 long) = omega arith
nest_positive (w.chr l1 n1) = omega arith
nest_positive (w.text l1 bytes) = omega arith
nest_positive (w.bracket l1 e m) = omega arith

suffixed-is : (e : Written) → (n : ℕ) × ((m : ℕ) → suffixed e m ≡ n + m) × (n < expr_depth (plain e))
suffixed-is (w.comma x l1 y) = (0, λ m. omega arith, omega arith)
suffixed-is (w.assign x l1 op y) = (0, λ m. omega arith, omega arith)
suffixed-is (w.choice x l1 y m z) = (0, λ m. omega arith, omega arith)
suffixed-is (w.binary x l1 op y) = (0, λ m. omega arith, omega arith)
suffixed-is (w.unary l1 op e) = (0, λ m. omega arith, omega arith)
suffixed-is (w.size_of l1 e) = (0, λ m. omega arith, omega arith)
suffixed-is (w.size_of_type l1 m y n1) = (0, λ m. omega arith, omega arith)
suffixed-is (w.cast l1 y m e) = (0, λ m. omega arith, omega arith)
suffixed-is (w.index x l1 i m) = let h = suffixed-is x in (suc h.0, λ m. h.1 (suc m) ∙ omega arith, omega (arith, h.2))
suffixed-is (w.call f l1 es m) = let h = suffixed-is f in (suc h.0, λ m. h.1 (suc m) ∙ omega arith, omega (arith, h.2))
suffixed-is (w.member e l1 m x) = let h = suffixed-is e in (suc h.0, λ m. h.1 (suc m) ∙ omega arith, omega (arith, h.2))
suffixed-is (w.arrow e l1 m x) = let h = suffixed-is e in (suc h.0, λ m. h.1 (suc m) ∙ omega arith, omega (arith, h.2))
suffixed-is (w.post e l1 op) = let h = suffixed-is e in (suc h.0, λ m. h.1 (suc m) ∙ omega arith, omega (arith, h.2))
suffixed-is (w.name l1 x) = (0, λ m. omega arith, omega arith)
suffixed-is (w.int l1 n1 long) = (0, λ m. omega arith, omega arith)
suffixed-is (w.chr l1 n1) = (0, λ m. omega arith, omega arith)
suffixed-is (w.text l1 bytes) = (0, λ m. omega arith, omega arith)
suffixed-is (w.bracket l1 e m) = (0, λ m. omega arith, deep (plain e))

suffixed-all : (e : Written) (most : ℕ) → expr_depth (plain e) ≤ most → (k : ℕ) × (suffixed e (suc k) ≡ suc most)
suffixed-all e most le = let h = suffixed-is e in (most - h.0, h.1 (suc (most - h.0)) ∙ omega (arith, h.2))

climbed-is : (e : Written) → (n : ℕ) × ((m : ℕ) → climbed e m ≡ n + m) × (n < expr_depth (plain e))
climbed-is (w.comma x l1 y) = (0, λ m. omega arith, omega arith)
climbed-is (w.assign x l1 op y) = (0, λ m. omega arith, omega arith)
climbed-is (w.choice x l1 y m z) = (0, λ m. omega arith, omega arith)
climbed-is (w.binary x l1 op y) = let h = climbed-is x in (suc h.0, λ m. h.1 (suc m) ∙ omega arith, omega (arith, h.2))
climbed-is (w.unary l1 op e) = (0, λ m. omega arith, omega arith)
climbed-is (w.size_of l1 e) = (0, λ m. omega arith, omega arith)
climbed-is (w.size_of_type l1 m y n1) = (0, λ m. omega arith, omega arith)
climbed-is (w.cast l1 y m e) = (0, λ m. omega arith, omega arith)
climbed-is (w.index x l1 i m) = (0, λ m. omega arith, omega arith)
climbed-is (w.call f l1 es m) = (0, λ m. omega arith, omega arith)
climbed-is (w.member e l1 m x) = (0, λ m. omega arith, omega arith)
climbed-is (w.arrow e l1 m x) = (0, λ m. omega arith, omega arith)
climbed-is (w.post e l1 op) = (0, λ m. omega arith, omega arith)
climbed-is (w.name l1 x) = (0, λ m. omega arith, omega arith)
climbed-is (w.int l1 n1 long) = (0, λ m. omega arith, omega arith)
climbed-is (w.chr l1 n1) = (0, λ m. omega arith, omega arith)
climbed-is (w.text l1 bytes) = (0, λ m. omega arith, omega arith)
climbed-is (w.bracket l1 e m) = (0, λ m. omega arith, deep (plain e))

climbed-all : (e : Written) (most : ℕ) → expr_depth (plain e) ≤ most → (k : ℕ) × (climbed e (suc k) ≡ suc most)
climbed-all e most le = let h = climbed-is e in (most - h.0, h.1 (suc (most - h.0)) ∙ omega (arith, h.2))

commaed-is : (e : Written) → (n : ℕ) × ((m : ℕ) → commaed e m ≡ n + m) × (n < expr_depth (plain e))
commaed-is (w.comma x l1 y) = let h = commaed-is x in (suc h.0, λ m. h.1 (suc m) ∙ omega arith, omega (arith, h.2))
commaed-is (w.assign x l1 op y) = (0, λ m. omega arith, omega arith)
commaed-is (w.choice x l1 y m z) = (0, λ m. omega arith, omega arith)
commaed-is (w.binary x l1 op y) = (0, λ m. omega arith, omega arith)
commaed-is (w.unary l1 op e) = (0, λ m. omega arith, omega arith)
commaed-is (w.size_of l1 e) = (0, λ m. omega arith, omega arith)
commaed-is (w.size_of_type l1 m y n1) = (0, λ m. omega arith, omega arith)
commaed-is (w.cast l1 y m e) = (0, λ m. omega arith, omega arith)
commaed-is (w.index x l1 i m) = (0, λ m. omega arith, omega arith)
commaed-is (w.call f l1 es m) = (0, λ m. omega arith, omega arith)
commaed-is (w.member e l1 m x) = (0, λ m. omega arith, omega arith)
commaed-is (w.arrow e l1 m x) = (0, λ m. omega arith, omega arith)
commaed-is (w.post e l1 op) = (0, λ m. omega arith, omega arith)
commaed-is (w.name l1 x) = (0, λ m. omega arith, omega arith)
commaed-is (w.int l1 n1 long) = (0, λ m. omega arith, omega arith)
commaed-is (w.chr l1 n1) = (0, λ m. omega arith, omega arith)
commaed-is (w.text l1 bytes) = (0, λ m. omega arith, omega arith)
commaed-is (w.bracket l1 e m) = (0, λ m. omega arith, deep (plain e))

commaed-all : (e : Written) (most : ℕ) → expr_depth (plain e) ≤ most → (k : ℕ) × (commaed e (suc k) ≡ suc most)
commaed-all e most le = let h = commaed-is e in (most - h.0, h.1 (suc (most - h.0)) ∙ omega (arith, h.2))

-- no expression begins with a type
start_no_type : (defs : List Name) (x : Tok) → is_start defs x ≡ true → begins_tok defs x ≡ false
start_no_type defs (k.name x) is = name_false (is_typedef defs x) is
  where
    name_false : (c : Bool) → pick c false true ≡ true → c ≡ false
    name_false true e = cc
    name_false false e = refl
start_no_type defs (k.int n long) is = refl
start_no_type defs (k.chr n) is = refl
start_no_type defs (k.text bytes) is = refl
start_no_type defs (k.word v) is = ap (λ m. is_there (type_word_of m) || is_there (tag_of m)) (eqb-true v 17 is)
start_no_type defs (k.mark m) is = refl

starts_no_type : (defs : List Name) (ts : List Token) → starts defs ts ≡ true → begins_type defs ts ≡ false
starts_no_type defs [] is = refl
starts_no_type defs (x ∷ ts) is = start_no_type defs x.kind is

no_type : (defs : List Name) (e : Written) (after : List Token) → IsLevelled defs e → begins_type defs (spell e after) ≡ false
no_type defs e after ok = starts_no_type defs (spell e after) (expr_starts defs e after ok)

not_closed : (defs : List Name) (e : Written) (after : List Token) → IsLevelled defs e → eat 22 (spell e after) ≡ None
not_closed defs e after ok = no_mark defs 22 (spell e after) refl (expr_starts defs e after ok)

-- what is at least a postfix expression begins with no operator before an operand, no `sizeof` and no cast
record NoPrefix (defs : List Name) (ts : List Token) : Type 0 where
  no_unary : front_mark unary_of ts ≡ None
  no_sizeof : eat_word 17 ts ≡ None
  no_cast : type_bracket defs ts ≡ None

no_prefix : (defs : List Name) (e : Written) (after : List Token) → IsLevelled defs e → 15 ≤ level e → NoPrefix defs (spell e after)
no_prefix defs (w.comma x l1 y) after ok le = absurd (omega arith)
no_prefix defs (w.assign x l1 op y) after ok le = absurd (omega arith)
no_prefix defs (w.choice x l1 y m z) after ok le = absurd (omega arith)
no_prefix defs (w.binary x l1 op y) after ok le = let hi : binary_level op ≤ 13 = (binary_range op).1 in absurd (omega arith)
no_prefix defs (w.unary l1 op e) after ok le = absurd (omega arith)
no_prefix defs (w.size_of l1 e) after ok le = absurd (omega arith)
no_prefix defs (w.size_of_type l1 m y n1) after ok le = absurd (omega arith)
no_prefix defs (w.cast l1 y m e) after ok le = absurd (omega arith)
no_prefix defs (w.index x l1 i m) after ok le = no_prefix defs x _ ok.1 ok.0
no_prefix defs (w.call f l1 es m) after ok le = no_prefix defs f _ ok.1 ok.0
no_prefix defs (w.member e l1 m x) after ok le = no_prefix defs e _ ok.2 ok.1
no_prefix defs (w.arrow e l1 m x) after ok le = no_prefix defs e _ ok.2 ok.1
no_prefix defs (w.post e l1 op) after ok le = no_prefix defs e _ ok.1 ok.0
no_prefix defs (w.name l1 x) after ok le = record { no_unary = refl; no_sizeof = refl; no_cast = refl }
no_prefix defs (w.int l1 n1 long) after ok le = record { no_unary = refl; no_sizeof = refl; no_cast = refl }
no_prefix defs (w.chr l1 n1) after ok le = record { no_unary = refl; no_sizeof = refl; no_cast = refl }
no_prefix defs (w.text l1 bytes) after ok le = record { no_unary = refl; no_sizeof = refl; no_cast = refl }
no_prefix defs (w.bracket l1 e m) after ok le = record { no_unary = refl; no_sizeof = refl; no_cast = rw (no_type defs e (mark m 22 ∷ after) ok) refl }

no_sized_type : (defs : List Name) (e : Written) (after : List Token) → IsLevelled defs e → is_cast e ≡ false → 14 ≤ level e → type_bracket defs (spell e after) ≡ None
no_sized_type defs (w.comma x l1 y) after ok not_cast le = absurd (omega arith)
no_sized_type defs (w.assign x l1 op y) after ok not_cast le = absurd (omega arith)
no_sized_type defs (w.choice x l1 y m z) after ok not_cast le = absurd (omega arith)
no_sized_type defs (w.binary x l1 op y) after ok not_cast le = let hi : binary_level op ≤ 13 = (binary_range op).1 in absurd (omega arith)
no_sized_type defs (w.unary l1 op e) after ok not_cast le = rw (unary_not_open op) refl
no_sized_type defs (w.size_of l1 e) after ok not_cast le = refl
no_sized_type defs (w.size_of_type l1 m y n1) after ok not_cast le = refl
no_sized_type defs (w.cast l1 y m e) after ok not_cast le = cc
no_sized_type defs (w.index x l1 i m) after ok not_cast le = (no_prefix defs (w.index x l1 i m) after ok (omega arith)).no_cast
no_sized_type defs (w.call f l1 es m) after ok not_cast le = (no_prefix defs (w.call f l1 es m) after ok (omega arith)).no_cast
no_sized_type defs (w.member e l1 m x) after ok not_cast le = (no_prefix defs (w.member e l1 m x) after ok (omega arith)).no_cast
no_sized_type defs (w.arrow e l1 m x) after ok not_cast le = (no_prefix defs (w.arrow e l1 m x) after ok (omega arith)).no_cast
no_sized_type defs (w.post e l1 op) after ok not_cast le = (no_prefix defs (w.post e l1 op) after ok (omega arith)).no_cast
no_sized_type defs (w.name l1 x) after ok not_cast le = refl
no_sized_type defs (w.int l1 n1 long) after ok not_cast le = refl
no_sized_type defs (w.chr l1 n1) after ok not_cast le = refl
no_sized_type defs (w.text l1 bytes) after ok not_cast le = refl
no_sized_type defs (w.bracket l1 e m) after ok not_cast le = rw (no_type defs e (mark m 22 ∷ after) ok) refl

ends_before_others : (es : Others) (m : ℕ) (after : List Token) → Ends 2 (spell_others es (mark m 22 ∷ after))
ends_before_others w.no_others m after = ends_before_close 2 m after
ends_before_others (w.more_others l e es) m after = ends_before_comma 2 l _ (omega arith)

module _ (defs : List Name) (most : ℕ) (inner : ℕ → List Token → Read Expr) (n : ℕ)
    (inner_again : (e : Written) (l : ℕ) (after : List Token) → IsLevelled defs e → nest e ≤ n → expr_depth (plain e) ≤ most → l ≤ level e → Ends l after
    → inner l (spell e after) ≡ Some (plain e, after)) where
  fits : (e : Expr) (ts : List Token) → expr_depth e ≤ most → grown expr_depth most e ts ≡ Some (e, ts)
  fits e ts le = grown_again expr_depth most e ts le

  close_again : (e : Written) (m : ℕ) (after : List Token) → IsLevelled defs e → nest e ≤ n → expr_depth (plain e) ≤ most
      → r.enclosed defs most inner 22 (spell e (mark m 22 ∷ after)) ≡ Some (plain e, after)
  unfolding r.enclosed
  close_again e m after ok small low = rw (inner_again e 1 (mark m 22 ∷ after) ok small low (level_range e).0 (ends_before_close 1 m after)) refl

  square_again : (e : Written) (m : ℕ) (after : List Token) → IsLevelled defs e → nest e ≤ n → expr_depth (plain e) ≤ most
      → r.enclosed defs most inner 24 (spell e (mark m 24 ∷ after)) ≡ Some (plain e, after)
  unfolding r.enclosed
  square_again e m after ok small low = rw (inner_again e 1 (mark m 24 ∷ after) ok small low (level_range e).0 (ends_before_square 1 m after)) refl

  colon_again : (e : Written) (m : ℕ) (after : List Token) → IsLevelled defs e → nest e ≤ n → expr_depth (plain e) ≤ most
      → r.enclosed defs most inner 30 (spell e (mark m 30 ∷ after)) ≡ Some (plain e, after)
  unfolding r.enclosed
  colon_again e m after ok small low = rw (inner_again e 1 (mark m 30 ∷ after) ok small low (level_range e).0 (ends_before_colon 1 m after)) refl

  args_from_again : (k : ℕ) (e : Written) (es : Others) (m : ℕ) (after : List Token) → AreLevelled defs (w.more_args e es) → nests (w.more_args e es) ≤ n
      → exprs_depth (plains (w.more_args e es)) ≤ most → length (spell_args (w.more_args e es) (mark m 22 ∷ after)) ≤ k
      → r.args_from defs most inner k (spell_args (w.more_args e es) (mark m 22 ∷ after)) ≡ Some (plains (w.more_args e es), after)
  unfolding r.args_from
  args_from_again zero e es m after ok small low room = absurd (omega (arith, expr_longer e (spell_others es (mark m 22 ∷ after))))
  args_from_again (suc k) e w.no_others m after ok small low room =
      rw (inner_again e 2 (mark m 22 ∷ after) ok.1 (omega arith) (omega arith) ok.0 (ends_before_close 2 m after)) refl
  args_from_again (suc k) e (w.more_others l d ds) m after ok small low room =
      rw (
        inner_again e 2 (spell_others (w.more_others l d ds) (mark m 22 ∷ after)) ok.1 (omega arith) (omega arith) ok.0 (ends_before_comma 2 l _ (omega arith)),
        args_from_again k d ds m after ok.2 (omega arith) (omega arith) (omega (arith, expr_longer e (spell_others (w.more_others l d ds) (mark m 22 ∷ after)))),
      ) refl

  args_again : (es : Args) (m : ℕ) (after : List Token) → AreLevelled defs es → nests es ≤ n → exprs_depth (plains es) ≤ most
      → r.args defs most inner (spell_args es (mark m 22 ∷ after)) ≡ Some (plains es, after)
  unfolding r.args
  args_again w.no_args m after ok small low = refl
  args_again (w.more_args e es) m after ok small low =
      rw (not_closed defs e (spell_others es (mark m 22 ∷ after)) ok.1) (args_from_again _ e es m after ok small low (omega arith))

  suffixes_again : (e : Written) (k : ℕ) (after : List Token) → IsLevelled defs e → nest e ≤ suc n → expr_depth (plain e) ≤ most → 15 ≤ level e
      → (r.primary defs most inner (spell e after) >>= λ x. r.suffixes defs most inner (suffixed e k) (first e) x.0 x.1) ≡ r.suffixes defs most inner k (first e) (plain e) after
  unfolding r.primary r.suffixes
  suffixes_again (w.comma x l1 y) k after ok small low le = absurd (omega arith)
  suffixes_again (w.assign x l1 op y) k after ok small low le = absurd (omega arith)
  suffixes_again (w.choice x l1 y m z) k after ok small low le = absurd (omega arith)
  suffixes_again (w.binary x l1 op y) k after ok small low le = let hi : binary_level op ≤ 13 = (binary_range op).1 in absurd (omega arith)
  suffixes_again (w.unary l1 op e) k after ok small low le = absurd (omega arith)
  suffixes_again (w.size_of l1 e) k after ok small low le = absurd (omega arith)
  suffixes_again (w.size_of_type l1 m y n1) k after ok small low le = absurd (omega arith)
  suffixes_again (w.cast l1 y m e) k after ok small low le = absurd (omega arith)
  suffixes_again (w.index x l1 i m) k after ok small low le =
      suffixes_again x (suc k) (mark l1 23 ∷ spell i (mark m 24 ∷ after)) ok.1 (omega arith) (omega arith) ok.0
      ∙ rw (square_again i m after ok.2 (omega arith) (omega arith), fits (plain (w.index x l1 i m)) after low) refl
  suffixes_again (w.call f l1 es m) k after ok small low le =
      suffixes_again f (suc k) (mark l1 21 ∷ spell_args es (mark m 22 ∷ after)) ok.1 (omega arith) (omega arith) ok.0
      ∙ rw (args_again es m after ok.2 (omega arith) (omega arith), fits (plain (w.call f l1 es m)) after low) refl
  suffixes_again (w.member e l1 m x) j after ok small low le =
      suffixes_again e (suc j) (mark l1 27 ∷ tok m (k.name x) ∷ after) ok.2 (omega arith) (omega arith) ok.1
      ∙ rw (ok.0, fits (plain (w.member e l1 m x)) after low) refl
  suffixes_again (w.arrow e l1 m x) j after ok small low le =
      suffixes_again e (suc j) (mark l1 4 ∷ tok m (k.name x) ∷ after) ok.2 (omega arith) (omega arith) ok.1
      ∙ rw (ok.0, fits (plain (w.arrow e l1 m x)) after low) refl
  suffixes_again (w.post e l1 op) k after ok small low le =
      let q = step_is op in
      suffixes_again e (suc k) (mark l1 (step_mark op) ∷ after) ok.1 (omega arith) (omega arith) ok.0
      ∙ rw (q.no_call, q.no_index, q.no_member, q.no_arrow, q.again, fits (plain (w.post e l1 op)) after low) refl
  suffixes_again (w.name l1 x) k after ok small low le = rw ok refl
  suffixes_again (w.int l1 n1 long) k after ok small low le = refl
  suffixes_again (w.chr l1 n1) k after ok small low le = refl
  suffixes_again (w.text l1 bytes) k after ok small low le = refl
  suffixes_again (w.bracket l1 e m) k after ok small low le = rw (close_again e m after ok (omega arith) low) refl

  suffixes_stop : (k line : ℕ) (e : Expr) (l : ℕ) (after : List Token) → Ends l after → r.suffixes defs most inner (suc k) line e after ≡ Some (e, after)
  unfolding r.suffixes
  suffixes_stop k line e l after ends = rw (ends.no_call, ends.no_index, ends.no_member, ends.no_arrow, ends.no_step) refl

  postfix_again : (e : Written) (after : List Token) → IsLevelled defs e → nest e ≤ suc n → expr_depth (plain e) ≤ most → 15 ≤ level e → Ends 14 after
      → r.prefixed defs most inner (spell e after) ≡ Some (plain e, after)
  unfolding r.prefixed r.postfix
  postfix_again e after ok small low le ends =
      let none = no_prefix defs e after ok le in
      let all = suffixed-all e most low in
      rw (none.no_unary, none.no_sizeof, none.no_cast, line_first e after, ← all.1)
      (suffixes_again e (suc all.0) after ok small low le ∙ suffixes_stop all.0 (first e) (plain e) 14 after ends)

  -- a part of level 14 or above, where no suffix follows
  prefixed_again : (e : Written) (after : List Token) → IsLevelled defs e → nest e ≤ suc n → expr_depth (plain e) ≤ most → 14 ≤ level e → Ends 14 after
      → r.prefixed defs most inner (spell e after) ≡ Some (plain e, after)
  unfolding r.prefixed
  prefixed_again (w.comma x l1 y) after ok small low le ends = absurd (omega arith)
  prefixed_again (w.assign x l1 op y) after ok small low le ends = absurd (omega arith)
  prefixed_again (w.choice x l1 y m z) after ok small low le ends = absurd (omega arith)
  prefixed_again (w.binary x l1 op y) after ok small low le ends = let hi : binary_level op ≤ 13 = (binary_range op).1 in absurd (omega arith)
  prefixed_again (w.unary l1 op e) after ok small low le ends =
      rw (unary_again op, inner_again e 14 after ok.1 (omega arith) (omega arith) ok.0 ends, fits (plain (w.unary l1 op e)) after low) refl
  prefixed_again (w.size_of l1 e) after ok small low le ends =
      rw (no_sized_type defs e after ok.2 ok.0 ok.1, inner_again e 14 after ok.2 (omega arith) (omega arith) ok.1 ends, fits (plain (w.size_of l1 e)) after low) refl
  prefixed_again (w.size_of_type l1 m y n1) after ok small low le ends =
      rw (bracket_again defs y m (mark n1 22 ∷ after) ok, typed_again defs y n1 after ok, fits (plain (w.size_of_type l1 m y n1)) after low) refl
  prefixed_again (w.cast l1 y m e) after ok small low le ends =
      rw (bracket_again defs y l1 (mark m 22 ∷ spell e after) ok.1, typed_again defs y m (spell e after) ok.1, inner_again e 14 after ok.2 (omega arith) (omega arith) ok.0 ends, fits (plain (w.cast l1 y m e)) after low) refl
  prefixed_again (w.index x l1 i m) after ok small low le ends = postfix_again (w.index x l1 i m) after ok small low (omega arith) ends
  prefixed_again (w.call f l1 es m) after ok small low le ends = postfix_again (w.call f l1 es m) after ok small low (omega arith) ends
  prefixed_again (w.member e l1 m x) after ok small low le ends = postfix_again (w.member e l1 m x) after ok small low (omega arith) ends
  prefixed_again (w.arrow e l1 m x) after ok small low le ends = postfix_again (w.arrow e l1 m x) after ok small low (omega arith) ends
  prefixed_again (w.post e l1 op) after ok small low le ends = postfix_again (w.post e l1 op) after ok small low (omega arith) ends
  prefixed_again (w.name l1 x) after ok small low le ends = postfix_again (w.name l1 x) after ok small low (omega arith) ends
  prefixed_again (w.int l1 n1 long) after ok small low le ends = postfix_again (w.int l1 n1 long) after ok small low (omega arith) ends
  prefixed_again (w.chr l1 n1) after ok small low le ends = postfix_again (w.chr l1 n1) after ok small low (omega arith) ends
  prefixed_again (w.text l1 bytes) after ok small low le ends = postfix_again (w.text l1 bytes) after ok small low (omega arith) ends
  prefixed_again (w.bracket l1 e m) after ok small low le ends = postfix_again (w.bracket l1 e m) after ok small low (omega arith) ends

  turn_again : (op : BinaryOp) (line : ℕ) (y : Written) (k first_line l : ℕ) (e : Expr) (after : List Token) → IsLevelled defs y → nest y ≤ n → expr_depth (t.binary first_line op e (plain y)) ≤ most
      → l ≤ binary_level op → binary_level op < level y → Ends (suc (binary_level op)) after
      → r.climb defs most inner (suc k) first_line l e (mark line (binary_mark op) ∷ spell y after) ≡ r.climb defs most inner k first_line l (t.binary first_line op e (plain y)) after
  unfolding r.climb
  turn_again op line y k first_line l e after ok small low le lt ends =
      rw (high_operator l line op (spell y after) le, inner_again y (suc (binary_level op)) after ok small (omega arith) lt ends, fits (t.binary first_line op e (plain y)) after low) refl

  climb_stop : (k line l : ℕ) (e : Expr) (after : List Token) → operator_at l after ≡ None → r.climb defs most inner (suc k) line l e after ≡ Some (e, after)
  unfolding r.climb
  climb_stop k line l e after none = rw none refl

  -- nothing but a prefixed expression has been read
  first_again : (e : Written) (k l : ℕ) (after : List Token) → IsLevelled defs e → nest e ≤ suc n → expr_depth (plain e) ≤ most → 14 ≤ level e → Ends 14 after → assigned_at l after ≡ None
      → (r.prefixed defs most inner (spell e after) >>= λ x. r.rest defs most inner k (first e) l x.0 x.1)
      ≡ (r.climb defs most inner k (first e) (max l 4) (plain e) after >>= λ x. r.choice_by defs most inner (first e) x.0 x.1 (choice_at l x.1))
  unfolding r.rest
  first_again e k l after ok small low le ends plain_end = rw (prefixed_again e after ok small low le ends, plain_end) refl

  climbs_again : (e : Written) (k l : ℕ) (after : List Token) → IsLevelled defs e → nest e ≤ suc n → expr_depth (plain e) ≤ most → max l 4 ≤ level e → Ends (suc (level e)) after → Ends 14 after → assigned_at l after ≡ None
      → (r.prefixed defs most inner (spell e after) >>= λ x. r.rest defs most inner (climbed e k) (first e) l x.0 x.1)
      ≡ (r.climb defs most inner k (first e) (max l 4) (plain e) after >>= λ x. r.choice_by defs most inner (first e) x.0 x.1 (choice_at l x.1))
  climbs_again (w.comma x l1 y) k l after ok small low le ends stops plain_end = absurd (omega arith)
  climbs_again (w.assign x l1 op y) k l after ok small low le ends stops plain_end = absurd (omega arith)
  climbs_again (w.choice x l1 y m z) k l after ok small low le ends stops plain_end = absurd (omega arith)
  climbs_again (w.binary x l1 op y) k l after ok small low le ends stops plain_end =
      let lo : 4 ≤ binary_level op = (binary_range op).0 in
      let hi : binary_level op ≤ 13 = (binary_range op).1 in
      climbs_again x (suc k) l (mark l1 (binary_mark op) ∷ spell y after) ok.2 (omega arith) (omega arith) (omega (arith, ok.0))
      (ends_before_binary _ l1 op _ (omega (arith, ok.0))) (ends_before_binary 14 l1 op _ (omega arith)) (not_assigned l l1 op _)
      ∙ ap (λ o. o >>= λ v. r.choice_by defs most inner (first x) v.0 v.1 (choice_at l v.1)) (turn_again op l1 y k (first x) (max l 4) (plain x) after ok.3 (omega arith) low le ok.1 ends)
  climbs_again (w.unary l1 op e) k l after ok small low le ends stops plain_end = first_again (w.unary l1 op e) k l after ok small low (omega arith) stops plain_end
  climbs_again (w.size_of l1 e) k l after ok small low le ends stops plain_end = first_again (w.size_of l1 e) k l after ok small low (omega arith) stops plain_end
  climbs_again (w.size_of_type l1 m y n1) k l after ok small low le ends stops plain_end = first_again (w.size_of_type l1 m y n1) k l after ok small low (omega arith) stops plain_end
  climbs_again (w.cast l1 y m e) k l after ok small low le ends stops plain_end = first_again (w.cast l1 y m e) k l after ok small low (omega arith) stops plain_end
  climbs_again (w.index x l1 i m) k l after ok small low le ends stops plain_end = first_again (w.index x l1 i m) k l after ok small low (omega arith) stops plain_end
  climbs_again (w.call f l1 es m) k l after ok small low le ends stops plain_end = first_again (w.call f l1 es m) k l after ok small low (omega arith) stops plain_end
  climbs_again (w.member e l1 m x) k l after ok small low le ends stops plain_end = first_again (w.member e l1 m x) k l after ok small low (omega arith) stops plain_end
  climbs_again (w.arrow e l1 m x) k l after ok small low le ends stops plain_end = first_again (w.arrow e l1 m x) k l after ok small low (omega arith) stops plain_end
  climbs_again (w.post e l1 op) k l after ok small low le ends stops plain_end = first_again (w.post e l1 op) k l after ok small low (omega arith) stops plain_end
  climbs_again (w.name l1 x) k l after ok small low le ends stops plain_end = first_again (w.name l1 x) k l after ok small low (omega arith) stops plain_end
  climbs_again (w.int l1 n1 long) k l after ok small low le ends stops plain_end = first_again (w.int l1 n1 long) k l after ok small low (omega arith) stops plain_end
  climbs_again (w.chr l1 n1) k l after ok small low le ends stops plain_end = first_again (w.chr l1 n1) k l after ok small low (omega arith) stops plain_end
  climbs_again (w.text l1 bytes) k l after ok small low le ends stops plain_end = first_again (w.text l1 bytes) k l after ok small low (omega arith) stops plain_end
  climbs_again (w.bracket l1 e m) k l after ok small low le ends stops plain_end = first_again (w.bracket l1 e m) k l after ok small low (omega arith) stops plain_end

  climb_item : (e : Written) (l : ℕ) (after : List Token) → IsLevelled defs e → nest e ≤ suc n → expr_depth (plain e) ≤ most → l ≤ level e → 4 ≤ level e → Ends l after
      → r.item defs most inner l (spell e after) ≡ Some (plain e, after)
  unfolding r.item
  climb_item e l after ok small low le four ends =
      let all = climbed-all e most low in
      rw (line_first e after, ← all.1)
      (climbs_again e (suc all.0) l after ok small low (omega arith) (ends_above l _ after (omega arith) ends) (ends_at_prefix l after ends) ends.no_assign
      ∙ ap (λ y. y >>= λ x. r.choice_by defs most inner (first e) x.0 x.1 (choice_at l x.1)) (climb_stop all.0 (first e) (max l 4) (plain e) after (ends_above l (max l 4) after (omega arith) ends).no_operator)
      ∙ rw ends.no_choice refl)

  choice_item : (x : Written) (l1 : ℕ) (y : Written) (m : ℕ) (z : Written) (l : ℕ) (after : List Token) → IsLevelled defs (w.choice x l1 y m z) → nest (w.choice x l1 y m z) ≤ suc n
      → expr_depth (plain (w.choice x l1 y m z)) ≤ most → l ≤ 3 → Ends l after → r.item defs most inner l (spell (w.choice x l1 y m z) after) ≡ Some (plain (w.choice x l1 y m z), after)
  unfolding r.item
  choice_item x l1 y m z l after ok small low le ends =
      let all = climbed-all x most (omega arith) in
      let test : nat_lt 3 l ≡ false = le-ltb 3 l le in
      rw (line_first x (mark l1 31 ∷ spell y (mark m 30 ∷ spell z after)), ← all.1)
      (climbs_again x (suc all.0) l (mark l1 31 ∷ spell y (mark m 30 ∷ spell z after)) ok.2 (omega arith) (omega arith) (omega (arith, ok.0)) (ends_before_choice _ l1 _ (omega (arith, ok.0)))
      (ends_before_choice 14 l1 _ (omega arith)) (choice_not_assigned l l1 (spell y (mark m 30 ∷ spell z after)))
      ∙ ap (λ o. o >>= λ v. r.choice_by defs most inner (first x) v.0 v.1 (choice_at l v.1)) (climb_stop all.0 (first x) (max l 4) (plain x) (mark l1 31 ∷ spell y (mark m 30 ∷ spell z after)) refl)
      ∙ rw (test, colon_again y m (spell z after) ok.3 (omega arith) (omega arith), inner_again z 3 after ok.4 (omega arith) (omega arith) ok.1 (ends_above l 3 after le ends), fits (plain (w.choice x l1 y m z)) after low) refl)

  item_again : (e : Written) (l : ℕ) (after : List Token) → IsLevelled defs e → nest e ≤ suc n → expr_depth (plain e) ≤ most → 2 ≤ l → l ≤ level e → Ends l after
      → r.item defs most inner l (spell e after) ≡ Some (plain e, after)
  unfolding r.item r.rest
  item_again (w.comma x l1 y) l after ok small low two le ends = absurd (omega arith)
  item_again (w.assign x l1 op y) l after ok small low two le ends =
      let test : nat_lt 2 l ≡ false = le-ltb 2 l le in
      rw (
        prefixed_again x (mark l1 (assign_mark op) ∷ spell y after) ok.2 (omega arith) (omega arith) ok.0 (ends_before_assign 14 l1 op _ (omega arith)),
        line_first x (mark l1 (assign_mark op) ∷ spell y after),
        test,
        assign_again op,
        inner_again y 2 after ok.3 (omega arith) (omega arith) ok.1 (ends_above l 2 after le ends),
        fits (plain (w.assign x l1 op y)) after low,
      ) refl
  item_again (w.choice x l1 y m z) l after ok small low two le ends = choice_item x l1 y m z l after ok small low le ends
  item_again (w.binary x l1 op y) l after ok small low two le ends = climb_item (w.binary x l1 op y) l after ok small low le (binary_range op).0 ends
  item_again (w.unary l1 op e) l after ok small low two le ends = climb_item (w.unary l1 op e) l after ok small low le (omega arith) ends
  item_again (w.size_of l1 e) l after ok small low two le ends = climb_item (w.size_of l1 e) l after ok small low le (omega arith) ends
  item_again (w.size_of_type l1 m y n1) l after ok small low two le ends = climb_item (w.size_of_type l1 m y n1) l after ok small low le (omega arith) ends
  item_again (w.cast l1 y m e) l after ok small low two le ends = climb_item (w.cast l1 y m e) l after ok small low le (omega arith) ends
  item_again (w.index x l1 i m) l after ok small low two le ends = climb_item (w.index x l1 i m) l after ok small low le (omega arith) ends
  item_again (w.call f l1 es m) l after ok small low two le ends = climb_item (w.call f l1 es m) l after ok small low le (omega arith) ends
  item_again (w.member e l1 m x) l after ok small low two le ends = climb_item (w.member e l1 m x) l after ok small low le (omega arith) ends
  item_again (w.arrow e l1 m x) l after ok small low two le ends = climb_item (w.arrow e l1 m x) l after ok small low le (omega arith) ends
  item_again (w.post e l1 op) l after ok small low two le ends = climb_item (w.post e l1 op) l after ok small low le (omega arith) ends
  item_again (w.name l1 x) l after ok small low two le ends = climb_item (w.name l1 x) l after ok small low le (omega arith) ends
  item_again (w.int l1 n1 long) l after ok small low two le ends = climb_item (w.int l1 n1 long) l after ok small low le (omega arith) ends
  item_again (w.chr l1 n1) l after ok small low two le ends = climb_item (w.chr l1 n1) l after ok small low le (omega arith) ends
  item_again (w.text l1 bytes) l after ok small low two le ends = climb_item (w.text l1 bytes) l after ok small low le (omega arith) ends
  item_again (w.bracket l1 e m) l after ok small low two le ends = climb_item (w.bracket l1 e m) l after ok small low le (omega arith) ends

  commas_stop : (k line l : ℕ) (e : Expr) (after : List Token) → comma_at l after ≡ None → r.commas defs most inner (suc k) line l e after ≡ Some (e, after)
  unfolding r.commas
  commas_stop k line l e after none = rw none refl

  comma_turn : (x : Written) (l1 : ℕ) (y : Written) (k l : ℕ) (after : List Token) → IsLevelled defs (w.comma x l1 y) → nest (w.comma x l1 y) ≤ suc n → expr_depth (plain (w.comma x l1 y)) ≤ most
      → l ≤ 1 → Ends 2 after
      → r.commas defs most inner (suc k) (first x) l (plain x) (mark l1 28 ∷ spell y after) ≡ r.commas defs most inner k (first x) l (plain (w.comma x l1 y)) after
  unfolding r.commas
  comma_turn x l1 y k l after ok small low le ends =
      let test : nat_lt 1 l ≡ false = le-ltb 1 l le in
      rw (test, inner_again y 2 after ok.3 (omega arith) (omega arith) ok.1 ends, fits (plain (w.comma x l1 y)) after low) refl

  item_first : (e : Written) (k l : ℕ) (after : List Token) → IsLevelled defs e → nest e ≤ suc n → expr_depth (plain e) ≤ most → 2 ≤ level e → l ≤ 1 → Ends 2 after
      → (r.item defs most inner (max l 2) (spell e after) >>= λ x. r.commas defs most inner k (first e) l x.0 x.1) ≡ r.commas defs most inner k (first e) l (plain e) after
  item_first e k l after ok small low two le ends =
      rw (item_again e (max l 2) after ok small low (omega arith) (omega arith) (ends_above 2 (max l 2) after (omega arith) ends)) refl

  commas_again : (e : Written) (k l : ℕ) (after : List Token) → IsLevelled defs e → nest e ≤ suc n → expr_depth (plain e) ≤ most → l ≤ 1 → Ends 2 after
      → (r.item defs most inner (max l 2) (spell e after) >>= λ x. r.commas defs most inner (commaed e k) (first e) l x.0 x.1) ≡ r.commas defs most inner k (first e) l (plain e) after
  commas_again (w.comma x l1 y) k l after ok small low le ends =
      commas_again x (suc k) l (mark l1 28 ∷ spell y after) ok.2 (omega arith) (omega arith) le (ends_before_comma 2 l1 (spell y after) (omega arith))
      ∙ comma_turn x l1 y k l after ok small low le ends
  commas_again (w.assign x l1 op y) k l after ok small low le ends = item_first (w.assign x l1 op y) k l after ok small low (omega arith) le ends
  commas_again (w.choice x l1 y m z) k l after ok small low le ends = item_first (w.choice x l1 y m z) k l after ok small low (omega arith) le ends
  commas_again (w.binary x l1 op y) k l after ok small low le ends = let lo : 4 ≤ binary_level op = (binary_range op).0 in item_first (w.binary x l1 op y) k l after ok small low (omega arith) le ends
  commas_again (w.unary l1 op e) k l after ok small low le ends = item_first (w.unary l1 op e) k l after ok small low (omega arith) le ends
  commas_again (w.size_of l1 e) k l after ok small low le ends = item_first (w.size_of l1 e) k l after ok small low (omega arith) le ends
  commas_again (w.size_of_type l1 m y n1) k l after ok small low le ends = item_first (w.size_of_type l1 m y n1) k l after ok small low (omega arith) le ends
  commas_again (w.cast l1 y m e) k l after ok small low le ends = item_first (w.cast l1 y m e) k l after ok small low (omega arith) le ends
  commas_again (w.index x l1 i m) k l after ok small low le ends = item_first (w.index x l1 i m) k l after ok small low (omega arith) le ends
  commas_again (w.call f l1 es m) k l after ok small low le ends = item_first (w.call f l1 es m) k l after ok small low (omega arith) le ends
  commas_again (w.member e l1 m x) k l after ok small low le ends = item_first (w.member e l1 m x) k l after ok small low (omega arith) le ends
  commas_again (w.arrow e l1 m x) k l after ok small low le ends = item_first (w.arrow e l1 m x) k l after ok small low (omega arith) le ends
  commas_again (w.post e l1 op) k l after ok small low le ends = item_first (w.post e l1 op) k l after ok small low (omega arith) le ends
  commas_again (w.name l1 x) k l after ok small low le ends = item_first (w.name l1 x) k l after ok small low (omega arith) le ends
  commas_again (w.int l1 n1 long) k l after ok small low le ends = item_first (w.int l1 n1 long) k l after ok small low (omega arith) le ends
  commas_again (w.chr l1 n1) k l after ok small low le ends = item_first (w.chr l1 n1) k l after ok small low (omega arith) le ends
  commas_again (w.text l1 bytes) k l after ok small low le ends = item_first (w.text l1 bytes) k l after ok small low (omega arith) le ends
  commas_again (w.bracket l1 e m) k l after ok small low le ends = item_first (w.bracket l1 e m) k l after ok small low (omega arith) le ends

  level_again : (e : Written) (l : ℕ) (after : List Token) → IsLevelled defs e → nest e ≤ suc n → expr_depth (plain e) ≤ most → l ≤ level e → Ends l after
      → r.level defs most inner l (spell e after) ≡ Some (plain e, after)
  unfolding r.level
  level_again e l after ok small low le ends =
      let all = commaed-all e most low in
      let ends2 : Ends (max l 2) after = ends_above l (max l 2) after (omega arith) ends in
      rw (line_first e after) (elim (nat_lt 1 l) as (λ b. nat_lt 1 l ≡ b → (r.item defs most inner (max l 2) (spell e after) >>= λ x. r.commas defs most inner (suc most) (first e) l x.0 x.1) ≡ Some (plain e, after)) [
        | true ↦ λ test.
            let lt : 1 < l = ltb-true 1 l test in
            rw (item_again e (max l 2) after ok small low (omega arith) (omega arith) ends2) (commas_stop most (first e) l (plain e) after ends.no_comma)
        | false ↦ λ test.
            let lt : l ≤ 1 = ltb-false 1 l test in
            rw (← all.1) (commas_again e (suc all.0) l after ok small low lt (ends_above l 2 after (omega arith) ends) ∙ commas_stop all.0 (first e) l (plain e) after ends.no_comma)
      ] refl)

-- What is spelled is read, with the brackets and parts nested no deeper than the second number.
pub expr_again : (defs : List Name) (most n : ℕ) (e : Written) (l : ℕ) (after : List Token) → IsLevelled defs e → nest e ≤ n → expr_depth (plain e) ≤ most → l ≤ level e → Ends l after
    → r.expr defs most n l (spell e after) ≡ Some (plain e, after)
unfolding r.expr
expr_again defs most zero e l after ok small low le ends = absurd (omega (arith, nest_positive e))
expr_again defs most (suc n) e l after ok small low le ends = level_again defs most (r.expr defs most n) n (expr_again defs most n) e l after ok small low le ends

-- At most one expression reads a text up to where it may end.
pub one_reading : (defs : List Name) (l : ℕ) (a b : Written) (x y : List Token) → IsLevelled defs a → IsLevelled defs b → l ≤ level a → l ≤ level b → Ends l x → Ends l y
    → spell a x ≡ spell b y → (plain a ≡ plain b) × (x ≡ y)
one_reading defs l a b x y a_ok b_ok a_le b_le a_ends b_ends same =
    let most = max (expr_depth (plain a)) (expr_depth (plain b)) in
    let n = max (nest a) (nest b) in
    let left = expr_again defs most n a l x a_ok (omega arith) (omega arith) a_le a_ends in
    let right = expr_again defs most n b l y b_ok (omega arith) (omega arith) b_le b_ends in
    let both = some_is (sym left ∙ ap (r.expr defs most n l) same ∙ right) in
    (ap (λ p. p.0) both, ap (λ p. p.1) both)
