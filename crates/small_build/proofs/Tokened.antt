-- The tokens of a text of the small form bound the temporaries, the weight and the numbers of its main.
use Rattle.std.proofs.Common.{◌≡◌, ℕ, suc, ◌+◌, ◌≤◌, List, [], ◌∷◌, length, refl, arith}
use Rattle.std.specs.Prelude.{Option, Some, None, Bool, true, false, ◌&&◌, nat_le}
use Rattle.std.proofs.lemmas.Bool.{leb-true}
use Rattle.c_type.specs.Names.{Name}
use Rattle.c_lex.specs.Tokens.{Token, Tok}
use Rattle.c_lex.specs.Tokens as k
use Rattle.c_type.specs.Types.{num}
use Rattle.c_type.specs.declared.Kind.TheVariants.{Int}
use Rattle.c_grammar.specs.Words.{tok, mark, word, open_round, close_round, semicolon, binary_mark}
use Rattle.c_tree.specs.declared.TBinary.{TBinary}
use Rattle.c_tree.specs.declared.AssignOp.TheVariants as ao
use Rattle.c_tree.specs.declared.BinaryOp.TheVariants as op
use Rattle.c_tree.specs.TExpr.{Local, TExpr, name, int, binary, assign, call, no_args, more_args}
use Rattle.c_tree.specs.TStmt.{TStmt, TStmts, block, no_stmts}
use Rattle.c_grammar.specs.WrittenExpr as w
use Rattle.c_grammar.specs.WrittenExpr.{Written, Args, Others, plain, plains, spell, spell_args, level, IsLevelled, first}
use Rattle.c_grammar.specs.WrittenStmt as z
use Rattle.c_grammar.specs.WrittenStmt.{WrittenStmt, WrittenStmts, plain_stmt, plain_stmts, spell_stmt, spell_stmts, IsStmt, AreStmts}
use Rattle.gen_small.specs.Code.{temps}
use Rattle.gen_small.specs.Forms.{IsFormStmt, IsFormStmts, weight, stmt_weight, stmts_weight}
use Rattle.name_set.specs.Different.{place_in}
use Rattle.small_build.specs.SmallText.{round_open, are_few}
use Rattle.small_form.specs.SmallForm.{variable, number, sum_in, is_putchar, argument_in, action_in, stmt_in, stmts_in, putchar}
use Rattle.small_form.proofs.Shaped.{none_some, some_is, mapped, picked, sum_parts, sum_term, variable_in_term, assignment_parts, call_parts, action_term, loop_parts, return_parts, done_parts, more_parts}

pub both : (a b : Bool) → (a && b) ≡ true → (a ≡ true) × (b ≡ true)
both true b e = (refl, e)
both false b e = absurd (let h : false ≡ true = e in cc)

-- one token more
pub few_on : (n m : ℕ) (x : Token) (ts : List Token) → round_open n x.kind ≡ m → are_few n (x ∷ ts) ≡ true → (m ≤ 62) × (are_few m ts ≡ true)
few_on n m x ts is e =
    let p = both (nat_le (round_open n x.kind) 62) (are_few (round_open n x.kind) ts) e in
    (rw is at (leb-true (round_open n x.kind) 62 p.0), rw is at p.1)

-- ---- expressions

-- What an expression's spelling says of its typed tree: it has a token for each unit of weight; where n brackets are open before
-- it, and never more than 62, its temporaries are few, fewer still where it stands in brackets or is a name or a number.
pub record Fits (spelling : List Token → List Token) (l : ℕ) (t : TExpr) : Type 0 where
  pub size : (after : List Token) → weight t + length after ≤ length (spelling after)
  pub few : (n : ℕ) (after : List Token) → are_few n (spelling after) ≡ true → (temps t + n ≤ 63) × (are_few n after ≡ true)
  pub tight : 13 ≤ l → (n : ℕ) (after : List Token) → are_few n (spelling after) ≡ true → temps t + n ≤ 62

leaf_fits : (x : Token) (t : TExpr) → weight t ≡ 1 → temps t ≡ 0 → ((n : ℕ) → round_open n x.kind ≡ n) → Fits (λ after. x ∷ after) 16 t
leaf_fits x t one none same = record {
  size = λ after. omega arith;
  few = λ n after e. let p = few_on n n x after (same n) e in (let low = p.0 in omega arith, p.1);
  tight = λ h n after e. let p = few_on n n x after (same n) e in let low = p.0 in omega arith;
}

variable_leaf : (o : Option ℕ) (t : TExpr) → variable o ≡ Some t → (weight t ≡ 1) × (temps t ≡ 0)
variable_leaf None t e = absurd (none_some t e)
variable_leaf (Some i) t e = rw (← some_is (name (num Int) (Local i)) t e) (refl, refl)

number_leaf : (n : ℕ) (long : Bool) (t : TExpr) → number n long ≡ Some t → (weight t ≡ 1) × (temps t ≡ 0)
number_leaf n long t e = rw (← some_is (int (num Int) n) t (picked _ (Some (int (num Int) n)) t e).1) (refl, refl)

sum_fits : (a b : Written) (l m : ℕ) (p : TBinary) (x y : TExpr) → ((n : ℕ) → round_open n (k.mark m) ≡ n) → 13 ≤ level b → Fits (spell a) (level a) x → Fits (spell b) (level b) y
    → Fits (λ after. spell a (mark l m ∷ spell b after)) 12 (binary (num Int) p x y)
sum_fits a b l m p x y same tight fa fb = record {
  size = λ after. omega (arith, fa.size (mark l m ∷ spell b after), fb.size after);
  few = λ n after e.
      let left = fa.few n (mark l m ∷ spell b after) e in
      let sign = few_on n n (mark l m) (spell b after) (same n) left.1 in
      let right = fb.few n after sign.1 in
      let low = left.0 in
      let high = fb.tight tight n after sign.1 in
      (omega arith, right.1);
  tight = λ h. absurd (omega arith);
}

bracket_fits : (e : Written) (l m : ℕ) (t : TExpr) → Fits (spell e) (level e) t → Fits (λ after. mark l open_round ∷ spell e (mark m close_round ∷ after)) 16 t
bracket_fits e l m t f = record {
  size = λ after. omega (arith, f.size (mark m close_round ∷ after));
  few = λ n after h. let p = inside n after h in let low = p.0 in (omega arith, p.1);
  tight = λ high n after h. let p = inside n after h in p.0;
}
  where
    inside : (n : ℕ) (after : List Token) → are_few n (mark l open_round ∷ spell e (mark m close_round ∷ after)) ≡ true → (temps t + n ≤ 62) × (are_few n after ≡ true)
    inside n after h =
        let open_ = few_on n (suc n) (mark l open_round) (spell e (mark m close_round ∷ after)) refl h in
        let p = f.few (suc n) (mark m close_round ∷ after) open_.1 in
        let low = p.0 in
        let close = few_on (suc n) n (mark m close_round) after (omega arith) p.1 in
        (omega arith, close.1)

pub fits : (defs ns : List Name) (e : Written) (t : TExpr) → IsLevelled defs e → sum_in ns (plain e) ≡ Some t → Fits (spell e) (level e) t
fits defs ns (w.comma a l b) t ok q = absurd (none_some t q)
fits defs ns (w.assign a l o b) t ok q = absurd (none_some t q)
fits defs ns (w.choice a l b m c) t ok q = absurd (none_some t q)
fits defs ns (w.binary a l op.Either b) t ok e = absurd (none_some t e)
fits defs ns (w.binary a l op.Both b) t ok e = absurd (none_some t e)
fits defs ns (w.binary a l op.Or b) t ok e = absurd (none_some t e)
fits defs ns (w.binary a l op.Xor b) t ok e = absurd (none_some t e)
fits defs ns (w.binary a l op.And b) t ok e = absurd (none_some t e)
fits defs ns (w.binary a l op.Eq b) t ok e = absurd (none_some t e)
fits defs ns (w.binary a l op.Ne b) t ok e = absurd (none_some t e)
fits defs ns (w.binary a l op.Lt b) t ok e = absurd (none_some t e)
fits defs ns (w.binary a l op.Gt b) t ok e = absurd (none_some t e)
fits defs ns (w.binary a l op.Le b) t ok e = absurd (none_some t e)
fits defs ns (w.binary a l op.Ge b) t ok e = absurd (none_some t e)
fits defs ns (w.binary a l op.Shl b) t ok e = absurd (none_some t e)
fits defs ns (w.binary a l op.Shr b) t ok e = absurd (none_some t e)
fits defs ns (w.binary a l op.Add b) t ok e =
    let p = sum_parts ns op.Add (plain a) (plain b) t e in
    rw (← p.whole) (sum_fits a b l (binary_mark op.Add) p.operator p.left p.right (λ n. refl) (let h = ok.1 in omega arith) (fits defs ns a p.left ok.2 p.left_is) (fits defs ns b p.right ok.3 p.right_is))
fits defs ns (w.binary a l op.Sub b) t ok e =
    let p = sum_parts ns op.Sub (plain a) (plain b) t e in
    rw (← p.whole) (sum_fits a b l (binary_mark op.Sub) p.operator p.left p.right (λ n. refl) (let h = ok.1 in omega arith) (fits defs ns a p.left ok.2 p.left_is) (fits defs ns b p.right ok.3 p.right_is))
fits defs ns (w.binary a l op.Mul b) t ok e = absurd (none_some t e)
fits defs ns (w.binary a l op.Div b) t ok e = absurd (none_some t e)
fits defs ns (w.binary a l op.Rem b) t ok e = absurd (none_some t e)
fits defs ns (w.unary l o e) t ok q = absurd (none_some t q)
fits defs ns (w.size_of l e) t ok q = absurd (none_some t q)
fits defs ns (w.size_of_type l m y n) t ok q = absurd (none_some t q)
fits defs ns (w.cast l y m e) t ok q = absurd (none_some t q)
fits defs ns (w.index a l i m) t ok q = absurd (none_some t q)
fits defs ns (w.call f l es m) t ok q = absurd (none_some t q)
fits defs ns (w.member e l m x) t ok q = absurd (none_some t q)
fits defs ns (w.arrow e l m x) t ok q = absurd (none_some t q)
fits defs ns (w.post e l o) t ok q = absurd (none_some t q)
fits defs ns (w.name l x) t ok e = let p = variable_leaf (place_in ns x) t e in leaf_fits (tok l (k.name x)) t p.0 p.1 (λ n. refl)
fits defs ns (w.int l n long) t ok e = let p = number_leaf n long t e in leaf_fits (tok l (k.int n long)) t p.0 p.1 (λ i. refl)
fits defs ns (w.chr l n) t ok q = absurd (none_some t q)
fits defs ns (w.text l bs) t ok q = absurd (none_some t q)
fits defs ns (w.bracket l e m) t ok q = bracket_fits e l m t (fits defs ns e t ok q)

-- ---- what a statement performs

pub record ActionFits (spelling : List Token → List Token) (t : TExpr) : Type 0 where
  pub size : (after : List Token) → weight t + length after ≤ length (spelling after)
  pub few : (n : ℕ) (after : List Token) → are_few n (spelling after) ≡ true → (temps t + n ≤ 63) × (are_few n after ≡ true)

-- a name, maybe in brackets
record Named (spelling : List Token → List Token) : Type 0 where
  size : (after : List Token) → 1 + length after ≤ length (spelling after)
  few : (n : ℕ) (after : List Token) → are_few n (spelling after) ≡ true → are_few n after ≡ true

false_true : {A : Type 0} → false ≡ true → A
false_true e = absurd (let h : false ≡ true = e in cc)

putchar_named : (e : Written) → is_putchar (plain e) ≡ true → Named (spell e)
putchar_named (w.comma a l b) q = false_true q
putchar_named (w.assign a l o b) q = false_true q
putchar_named (w.choice a l b m c) q = false_true q
putchar_named (w.binary a l o b) q = false_true q
putchar_named (w.unary l o e) q = false_true q
putchar_named (w.size_of l e) q = false_true q
putchar_named (w.size_of_type l m y n) q = false_true q
putchar_named (w.cast l y m e) q = false_true q
putchar_named (w.index a l i m) q = false_true q
putchar_named (w.call f l es m) q = false_true q
putchar_named (w.member e l m x) q = false_true q
putchar_named (w.arrow e l m x) q = false_true q
putchar_named (w.post e l o) q = false_true q
putchar_named (w.name l x) e = record { size = λ after. omega arith; few = λ n after h. (few_on n n (tok l (k.name x)) after refl h).1 }
putchar_named (w.int l n long) q = false_true q
putchar_named (w.chr l n) q = false_true q
putchar_named (w.text l bs) q = false_true q
putchar_named (w.bracket l e m) q =
    let f = putchar_named e q in
    record {
      size = λ after. omega (arith, f.size (mark m close_round ∷ after));
      few = λ n after h.
          let open_ = few_on n (suc n) (mark l open_round) (spell e (mark m close_round ∷ after)) refl h in
          (few_on (suc n) n (mark m close_round) after (omega arith) (f.few (suc n) (mark m close_round ∷ after) open_.1)).1;
    }

assign_fits : (a b : Written) (l : ℕ) (x y : TExpr) → Fits (spell a) (level a) x → Fits (spell b) (level b) y → ActionFits (λ after. spell a (mark l 32 ∷ spell b after)) (assign (num Int) x y)
assign_fits a b l x y fa fb = record {
  size = λ after. omega (arith, fa.size (mark l 32 ∷ spell b after), fb.size after);
  few = λ n after e.
      let left = fa.few n (mark l 32 ∷ spell b after) e in
      let sign = few_on n n (mark l 32) (spell b after) refl left.1 in
      fb.few n after sign.1;
}

call_fits : (f e : Written) (l m : ℕ) (y : TExpr) → Named (spell f) → Fits (spell e) (level e) y
    → ActionFits (λ after. spell f (mark l open_round ∷ spell e (mark m close_round ∷ after))) (call (num Int) putchar (more_args y no_args))
call_fits f e l m y ff fe = record {
  size = λ after. omega (arith, ff.size (mark l open_round ∷ spell e (mark m close_round ∷ after)), fe.size (mark m close_round ∷ after));
  few = λ n after h.
      let open_ = few_on n (suc n) (mark l open_round) (spell e (mark m close_round ∷ after)) refl (ff.few n (mark l open_round ∷ spell e (mark m close_round ∷ after)) h) in
      let inside = fe.few (suc n) (mark m close_round ∷ after) open_.1 in
      let low = inside.0 in
      (omega arith, (few_on (suc n) n (mark m close_round) after (omega arith) inside.1).1);
}

call_by : (defs ns : List Name) (f : Written) (l m : ℕ) (es : Args) (y t : TExpr) → Named (spell f) → w.AreLevelled defs es → argument_in ns (plains es) ≡ Some y → call (num Int) putchar (more_args y no_args) ≡ t
    → ActionFits (λ after. spell f (mark l open_round ∷ spell_args es (mark m close_round ∷ after))) t
call_by defs ns f l m w.no_args y t ff ok e is = absurd (none_some y e)
call_by defs ns f l m (w.more_args a w.no_others) y t ff ok e is = rw (← is) (call_fits f a l m y ff (fits defs ns a y ok.1 e))
call_by defs ns f l m (w.more_args a (w.more_others n b es)) y t ff ok e is = absurd (none_some y e)

pub action_fits : (defs ns : List Name) (e : Written) (t : TExpr) → IsLevelled defs e → action_in ns (plain e) ≡ Some t → ActionFits (spell e) t
action_fits defs ns (w.comma a l b) t ok q = absurd (none_some t q)
action_fits defs ns (w.assign a l ao.Set b) t ok e =
    let p = assignment_parts ns (plain a) (plain b) t e in
    let x = variable_in_term ns (plain a) p.left p.left_is in
    rw (← p.whole) (assign_fits a b l p.left p.right (fits defs ns a p.left ok.2 x.2) (fits defs ns b p.right ok.3 p.right_is))
action_fits defs ns (w.assign a l ao.Add b) t ok e = absurd (none_some t e)
action_fits defs ns (w.assign a l ao.Sub b) t ok e = absurd (none_some t e)
action_fits defs ns (w.assign a l ao.Mul b) t ok e = absurd (none_some t e)
action_fits defs ns (w.assign a l ao.Div b) t ok e = absurd (none_some t e)
action_fits defs ns (w.assign a l ao.Rem b) t ok e = absurd (none_some t e)
action_fits defs ns (w.assign a l ao.And b) t ok e = absurd (none_some t e)
action_fits defs ns (w.assign a l ao.Or b) t ok e = absurd (none_some t e)
action_fits defs ns (w.assign a l ao.Xor b) t ok e = absurd (none_some t e)
action_fits defs ns (w.assign a l ao.Shl b) t ok e = absurd (none_some t e)
action_fits defs ns (w.assign a l ao.Shr b) t ok e = absurd (none_some t e)
action_fits defs ns (w.choice a l b m c) t ok q = absurd (none_some t q)
action_fits defs ns (w.binary a l o b) t ok q = absurd (none_some t q)
action_fits defs ns (w.unary l o e) t ok q = absurd (none_some t q)
action_fits defs ns (w.size_of l e) t ok q = absurd (none_some t q)
action_fits defs ns (w.size_of_type l m y n) t ok q = absurd (none_some t q)
action_fits defs ns (w.cast l y m e) t ok q = absurd (none_some t q)
action_fits defs ns (w.index a l i m) t ok q = absurd (none_some t q)
action_fits defs ns (w.call f l es m) t ok e =
    let p = call_parts ns (plain f) (plains es) t e in
    call_by defs ns f l m es p.argument t (putchar_named f p.named) ok.2 p.argument_is p.whole
action_fits defs ns (w.member e l m x) t ok q = absurd (none_some t q)
action_fits defs ns (w.arrow e l m x) t ok q = absurd (none_some t q)
action_fits defs ns (w.post e l o) t ok q = absurd (none_some t q)
action_fits defs ns (w.name l x) t ok q = absurd (none_some t q)
action_fits defs ns (w.int l n long) t ok q = absurd (none_some t q)
action_fits defs ns (w.chr l n) t ok q = absurd (none_some t q)
action_fits defs ns (w.text l bs) t ok q = absurd (none_some t q)
action_fits defs ns (w.bracket l e m) t ok q =
    let f = action_fits defs ns e t ok q in
    record {
      size = λ after. omega (arith, f.size (mark m close_round ∷ after));
      few = λ n after h.
          let open_ = few_on n (suc n) (mark l open_round) (spell e (mark m close_round ∷ after)) refl h in
          let inside = f.few (suc n) (mark m close_round ∷ after) open_.1 in
          let low = inside.0 in
          (omega arith, (few_on (suc n) n (mark m close_round) after (omega arith) inside.1).1);
    }

-- ---- statements

pub record StmtFits (m : ℕ) (spelling : List Token → List Token) (t : TStmt) : Type 0 where
  pub size : (after : List Token) → stmt_weight t + length after ≤ length (spelling after)
  pub form : (after : List Token) → are_few 0 (spelling after) ≡ true → IsFormStmt m t × (are_few 0 after ≡ true)

pub record StmtsFit (m : ℕ) (spelling : List Token → List Token) (ts : TStmts) : Type 0 where
  pub size : (after : List Token) → stmts_weight ts + length after ≤ length (spelling after)
  pub form : (after : List Token) → are_few 0 (spelling after) ≡ true → IsFormStmts m ts × (are_few 0 after ≡ true)

mutual
  pub stmt_fits : (defs ns : List Name) (i : ℕ) (q : WrittenStmt) (t : TStmt) → IsStmt defs q → stmt_in ns i (plain_stmt q) ≡ Some t → StmtFits (length ns) (spell_stmt q) t
  stmt_fits defs ns i (z.expr e l) t ok q =
      let p = done_parts ns i (first e) (plain e) t q in
      let f = action_fits defs ns e p.action ok.1 p.action_is in
      let a = action_term ns (plain e) p.action p.action_is in
      rw (← p.whole)
      (record {
        size = λ after. omega (arith, f.size (mark l semicolon ∷ after));
        form = λ after h.
            let x = f.few 0 (mark l semicolon ∷ after) h in
            let low = x.0 in
            (record { small = a.small; there = a.there; few = omega arith }, (few_on 0 0 (mark l semicolon) after refl x.1).1);
      })
  stmt_fits defs ns i (z.while l m e n s) t ok q =
      let p = loop_parts ns i l (plain e) (plain_stmt s) t q in
      let f = fits defs ns e p.test ok.0.1 p.test_is in
      let a = sum_term ns (plain e) p.test p.test_is in
      let r = stmt_fits defs ns (i + 1) s p.body ok.1 p.body_is in
      rw (← p.whole)
      (record {
        size = λ after. omega (arith, f.size (mark n close_round ∷ spell_stmt s after), r.size after);
        form = λ after h.
            let b1 = few_on 0 0 (word l 24) (mark m open_round ∷ spell e (mark n close_round ∷ spell_stmt s after)) refl h in
            let b2 = few_on 0 1 (mark m open_round) (spell e (mark n close_round ∷ spell_stmt s after)) refl b1.1 in
            let x = f.few 1 (mark n close_round ∷ spell_stmt s after) b2.1 in
            let low = x.0 in
            let y = r.form after (few_on 1 0 (mark n close_round) (spell_stmt s after) refl x.1).1 in
            ((record { small = a.small; there = a.there; few = omega arith }, y.0), y.1);
      })
  stmt_fits defs ns i (z.return l None m) t ok q = absurd (none_some t q)
  stmt_fits defs ns i (z.return l (Some e) m) t ok q =
      let p = return_parts ns i l (plain e) t q in
      let f = fits defs ns e p.value ok.1 p.value_is in
      let a = sum_term ns (plain e) p.value p.value_is in
      rw (← p.whole)
      (record {
        size = λ after. omega (arith, f.size (mark m semicolon ∷ after));
        form = λ after h.
            let b1 = few_on 0 0 (word l 15) (spell e (mark m semicolon ∷ after)) refl h in
            let x = f.few 0 (mark m semicolon ∷ after) b1.1 in
            let low = x.0 in
            (record { small = a.small; there = a.there; few = omega arith }, (few_on 0 0 (mark m semicolon) after refl x.1).1);
      })
  stmt_fits defs ns i (z.block l [] ss m) t ok q =
      let p = mapped (λ ts. block l [] ts m) (stmts_in ns i (plain_stmts ss)) t q in
      let r = stmts_fit defs ns i ss p.0 ok.1 p.1 in
      rw (← p.2)
      (record {
        size = λ after. omega (arith, r.size (mark m 26 ∷ after));
        form = λ after h.
            let b1 = few_on 0 0 (mark l 25) (spell_stmts ss (mark m 26 ∷ after)) refl h in
            let x = r.form (mark m 26 ∷ after) b1.1 in
            (x.0, (few_on 0 0 (mark m 26) after refl x.1).1);
      })
  stmt_fits defs ns i (z.block l (d ∷ ds) ss m) t ok q = absurd (none_some t q)
  stmt_fits defs ns i (z.empty l) t ok q = absurd (none_some t q)
  stmt_fits defs ns i (z.if_only l m e n s) t ok q = absurd (none_some t q)
  stmt_fits defs ns i (z.if_else l m e n s o r) t ok q = absurd (none_some t q)
  stmt_fits defs ns i (z.do_while l s m n e o v) t ok q = absurd (none_some t q)
  stmt_fits defs ns i (z.for l m e1 n e2 o e3 v s) t ok q = absurd (none_some t q)
  stmt_fits defs ns i (z.switch l m e n o is v) t ok q = absurd (none_some t q)
  stmt_fits defs ns i (z.break l m) t ok q = absurd (none_some t q)
  stmt_fits defs ns i (z.continue l m) t ok q = absurd (none_some t q)

  pub stmts_fit : (defs ns : List Name) (i : ℕ) (qs : WrittenStmts) (ts : TStmts) → AreStmts defs qs → stmts_in ns i (plain_stmts qs) ≡ Some ts → StmtsFit (length ns) (spell_stmts qs) ts
  stmts_fit defs ns i z.no_stmts ts ok e = rw (← some_is no_stmts ts e) (record { size = λ after. omega arith; form = λ after h. (tt, h) })
  stmts_fit defs ns i (z.more_stmts q qs) ts ok e =
      let p = more_parts ns i (plain_stmt q) (plain_stmts qs) ts e in
      let x = stmt_fits defs ns i q p.first ok.0 p.first_is in
      let y = stmts_fit defs ns _ qs p.rest ok.1 p.rest_is in
      rw (← p.whole)
      (record {
        size = λ after. omega (arith, x.size (spell_stmts qs after), y.size after);
        form = λ after h.
            let a = x.form (spell_stmts qs after) h in
            let b = y.form after a.1 in
            ((a.0, b.0), b.1);
      })
