-- What is read of a statement is spelled so.
use Rattle.std.proofs.Common.{◌≡◌, ℕ, ◌≤◌, zero, suc, List, [], ◌∷◌, length, map, Option, Some, None, Bool, true, false, nat_eq, refl, arith, ap, sym, ◌∙◌, true≢false}
use Rattle.std.proofs.lemmas.Bool.{eqb-true}
use Rattle.c_type.specs.Names.{Name, pick}
use Rattle.c_lex.specs.Tokens.{Tok, Token}
use Rattle.c_lex.specs.Tokens as k
use Rattle.c_grammar.specs.Words.{tok, mark, word, if_word, while_word, do_word, for_word, switch_word, break_word, continue_word, return_word, case_word, default_word, else_word, open_round, close_round, open_brace, close_brace, semicolon, colon}
use Rattle.c_tree.specs.TreeExpr.{Expr, expr_depth}
use Rattle.c_tree.specs.TreeDecl.{LocalDecl}
use Rattle.c_tree.specs.TreeStmt.{Stmt, Stmts, SwItem, SwItems, Block}
use Rattle.c_tree.specs.TreeStmt as t
use Rattle.c_grammar.specs.WrittenExpr.{Written, IsAtLevel}
use Rattle.c_grammar.specs.WrittenExpr as w
use Rattle.c_grammar.specs.WrittenDeclr.{plain_if, IfThere, spell_if}
use Rattle.c_grammar.specs.WrittenDecl.{WrittenLocal, plain_local, spell_local}
use Rattle.c_grammar.specs.WrittenStmt.{WrittenStmt, WrittenStmts, WrittenItem, WrittenItems, plain_stmt, plain_stmts, plain_item, plain_items, is_open, AreLocals, IsStmt, AreStmts, IsItem, AreItems, spell_locals, spell_stmt, spell_stmts, spell_item, spell_items}
use Rattle.c_grammar.specs.WrittenStmt as z
use Rattle.c_grammar.specs.Reads.{Spells}
use Rattle.c_expr.specs.Front.{Read, ◌>>=◌, eat, eat_word, line_at}
use Rattle.c_decl.specs.ReadSpecs.{start_at}
use Rattle.c_decl.specs.ReadDecl as d
use Rattle.c_expr.proofs.Fronts.{line_first}
use Rattle.c_expr.proofs.Taken.{some_is, bind_some, eat_takes, word_takes}
use Rattle.c_decl.proofs.DeclTakes.{local_takes}
use Rattle.c_parse.specs.ReadStmt.{Form, form_of, word_form}
use Rattle.c_parse.specs.ReadStmt as r
use Rattle.c_parse.proofs.StmtAgain.{Ends}

-- ---- the token that begins a statement

abbrev IsWord : ℕ → Form → Type 0
IsWord v r.if = v ≡ if_word
IsWord v r.while = v ≡ while_word
IsWord v r.do_while = v ≡ do_word
IsWord v r.for = v ≡ for_word
IsWord v r.switch = v ≡ switch_word
IsWord v r.break = v ≡ break_word
IsWord v r.continue = v ≡ continue_word
IsWord v r.return = v ≡ return_word
IsWord v r.empty = ⊥
IsWord v r.block = ⊥
IsWord v r.expr = Unit {0}

pick_all : (P : Form → Type 0) (b : Bool) (y u : Form) → (b ≡ true → P y) → P u → P (pick b y u)
pick_all P true y u one other_one = one refl
pick_all P false y u one other_one = other_one

word_form_is : (v : ℕ) → IsWord v (word_form v)
word_form_is v =
    pick_all (IsWord v) (nat_eq v 11) _ _ (eqb-true v 11) (pick_all (IsWord v) (nat_eq v 24) _ _ (eqb-true v 24) (pick_all (IsWord v) (nat_eq v 6) _ _ (eqb-true v 6) (pick_all (IsWord v) (nat_eq v 10) _ _ (eqb-true v 10)
    (pick_all (IsWord v) (nat_eq v 20) _ _ (eqb-true v 20) (pick_all (IsWord v) (nat_eq v 1) _ _ (eqb-true v 1) (pick_all (IsWord v) (nat_eq v 4) _ _ (eqb-true v 4) (pick_all (IsWord v) (nat_eq v 15) _ _ (eqb-true v 15) tt)))))))

abbrev FormTaken : Token → List Token → Form → Type 0
FormTaken y ts r.if = y ∷ ts ≡ word y.line if_word ∷ ts
FormTaken y ts r.while = y ∷ ts ≡ word y.line while_word ∷ ts
FormTaken y ts r.do_while = y ∷ ts ≡ word y.line do_word ∷ ts
FormTaken y ts r.for = y ∷ ts ≡ word y.line for_word ∷ ts
FormTaken y ts r.switch = y ∷ ts ≡ word y.line switch_word ∷ ts
FormTaken y ts r.break = y ∷ ts ≡ word y.line break_word ∷ ts
FormTaken y ts r.continue = y ∷ ts ≡ word y.line continue_word ∷ ts
FormTaken y ts r.return = y ∷ ts ≡ word y.line return_word ∷ ts
FormTaken y ts r.empty = y ∷ ts ≡ mark y.line semicolon ∷ ts
FormTaken y ts r.block = y ∷ ts ≡ mark y.line open_brace ∷ ts
FormTaken y ts r.expr = Unit {0}

word_taken : (y : Token) (ts : List Token) (v : ℕ) (f : Form) → y.kind ≡ k.word v → IsWord v f → FormTaken y ts f
word_taken y ts v r.if is same = ap (λ u. tok y.line u ∷ ts) (is ∙ ap k.word same)
word_taken y ts v r.while is same = ap (λ u. tok y.line u ∷ ts) (is ∙ ap k.word same)
word_taken y ts v r.do_while is same = ap (λ u. tok y.line u ∷ ts) (is ∙ ap k.word same)
word_taken y ts v r.for is same = ap (λ u. tok y.line u ∷ ts) (is ∙ ap k.word same)
word_taken y ts v r.switch is same = ap (λ u. tok y.line u ∷ ts) (is ∙ ap k.word same)
word_taken y ts v r.break is same = ap (λ u. tok y.line u ∷ ts) (is ∙ ap k.word same)
word_taken y ts v r.continue is same = ap (λ u. tok y.line u ∷ ts) (is ∙ ap k.word same)
word_taken y ts v r.return is same = ap (λ u. tok y.line u ∷ ts) (is ∙ ap k.word same)
word_taken y ts v r.empty is same = absurd same
word_taken y ts v r.block is same = absurd same
word_taken y ts v r.expr is same = tt

mark_taken : (y : Token) (ts : List Token) (m : ℕ) (a b : Bool) → y.kind ≡ k.mark m → nat_eq m semicolon ≡ a → nat_eq m open_brace ≡ b → FormTaken y ts (pick a r.empty (pick b r.block r.expr))
mark_taken y ts m true b is first second = ap (λ u. tok y.line u ∷ ts) (is ∙ ap k.mark (eqb-true m semicolon first))
mark_taken y ts m false true is first second = ap (λ u. tok y.line u ∷ ts) (is ∙ ap k.mark (eqb-true m open_brace second))
mark_taken y ts m false false is first second = tt

tok_taken : (y : Token) (ts : List Token) (c : Tok) → y.kind ≡ c → FormTaken y ts (form_of c)
tok_taken y ts (k.name x) is = tt
tok_taken y ts (k.int n long) is = tt
tok_taken y ts (k.chr n) is = tt
tok_taken y ts (k.text bytes) is = tt
tok_taken y ts (k.word v) is = word_taken y ts v (word_form v) is (word_form_is v)
tok_taken y ts (k.mark m) is = mark_taken y ts m (nat_eq m semicolon) (nat_eq m open_brace) is refl refl

-- where an `else` follows, the statement is not open
not_open : (q : WrittenStmt) (ts after : List Token) → Ends q ts → eat_word else_word ts ≡ Some after → is_open q ≡ false
not_open q ts after ends some = by_test (is_open q) refl
  where
    by_test : (b : Bool) → is_open q ≡ b → b ≡ false
    by_test false is = refl
    by_test true is = let none : eat_word else_word ts ≡ None = ends is in cc

never_open : (q : WrittenStmt) (ts : List Token) → is_open q ≡ false → Ends q ts
never_open q ts closed is_opened = absurd (true≢false (sym is_opened ∙ closed))

module _ (defs : List Name) (most : ℕ) (positive : 1 ≤ most) (expr : ℕ → List Token → Read Expr)
    (expr_takes : (l : ℕ) (ts : List Token) (x : Expr × List Token) → 1 ≤ l → l ≤ 3 → expr l ts ≡ Some x → Spells defs l x.0 ts x.1 × (expr_depth x.0 ≤ most)) where
  record TestTaken (ts : List Token) (e : Expr) (after : List Token) : Type 0 where
    written : Written
    open_line : ℕ
    close_line : ℕ
    levelled : IsAtLevel defs 1 written
    plain_is : w.plain written ≡ e
    tokens : ts ≡ mark open_line open_round ∷ w.spell written (mark close_line close_round ∷ after)

  test_takes : (ts : List Token) (y : Expr × List Token) → r.test defs most expr ts ≡ Some y → TestTaken ts y.0 y.1
  test_takes ts y is =
      let a = bind_some (eat open_round ts) (λ a. expr 1 a >>= λ e. eat close_round e.1 >>= λ b. Some (e.0, b)) y is in
      let f = eat_takes open_round ts a.0 a.1 in
      let b = bind_some (expr 1 a.0) (λ e. eat close_round e.1 >>= λ b. Some (e.0, b)) y a.2 in
      let e = (expr_takes 1 a.0 b.0 (omega arith) (omega arith) b.1).0 in
      let c = bind_some (eat close_round b.0.1) (λ b1. Some (b.0.0, b1)) y b.2 in
      let g = eat_takes close_round b.0.1 c.0 c.1 in
      let read : TestTaken ts b.0.0 c.0 = record {
        written = e.written;
        open_line = f.0;
        close_line = g.0;
        levelled = e.levelled;
        plain_is = e.plain_is;
        tokens = f.2 ∙ ap (λ v. mark f.0 open_round ∷ v) (e.tokens ∙ ap (w.spell e.written) g.2);
      } in
      rw (← some_is c.2) read

  record MaybeTaken (m : ℕ) (ts : List Token) (e : Option Expr) (after : List Token) : Type 0 where
    written : Option Written
    line : ℕ
    levelled : IfThere (IsAtLevel defs 1) written
    plain_is : plain_if w.plain written ≡ e
    tokens : ts ≡ spell_if w.spell written (mark line m ∷ after)

  maybe_takes : (m : ℕ) (ts : List Token) (o : Option (List Token)) (y : Option Expr × List Token) → eat m ts ≡ o → r.maybe_by defs most expr m ts o ≡ Some y → MaybeTaken m ts y.0 y.1
  maybe_takes m ts (Some after) y at is =
      let f = eat_takes m ts after at in
      let read : MaybeTaken m ts None after = record { written = None; line = f.0; levelled = tt; plain_is = refl; tokens = f.2 } in
      rw (← some_is is) read
  maybe_takes m ts None y at is =
      let b = bind_some (expr 1 ts) (λ e. eat m e.1 >>= λ after. Some (Some e.0, after)) y is in
      let e = (expr_takes 1 ts b.0 (omega arith) (omega arith) b.1).0 in
      let c = bind_some (eat m b.0.1) (λ after. Some (Some b.0.0, after)) y b.2 in
      let f = eat_takes m b.0.1 c.0 c.1 in
      let read : MaybeTaken m ts (Some b.0.0) c.0 = record { written = Some e.written; line = f.0; levelled = e.levelled; plain_is = ap Some e.plain_is; tokens = e.tokens ∙ ap (w.spell e.written) f.2 } in
      rw (← some_is c.2) read

  record LocalsTaken (ts : List Token) (ds : List LocalDecl) (after : List Token) : Type 0 where
    written : List WrittenLocal
    levelled : AreLocals defs written
    plain_is : map plain_local written ≡ ds
    tokens : ts ≡ spell_locals written after

  locals_by_take : (more : List Token → Read (List LocalDecl)) → ((ts : List Token) (y : List LocalDecl × List Token) → more ts ≡ Some y → LocalsTaken ts y.0 y.1)
      → (ts : List Token) (b : Bool) (y : List LocalDecl × List Token) → r.locals_by defs most expr more ts b ≡ Some y → LocalsTaken ts y.0 y.1
  locals_by_take more others ts true y is =
      let a = bind_some (d.local defs most expr ts) (λ x. more x.1 >>= λ xs. Some (x.0 ∷ xs.0, xs.1)) y is in
      let one = local_takes defs most positive expr expr_takes ts a.0 a.1 in
      let b = bind_some (more a.0.1) (λ xs. Some (a.0.0 ∷ xs.0, xs.1)) y a.2 in
      let rest = others a.0.1 b.0 b.1 in
      let read : LocalsTaken ts (a.0.0 ∷ b.0.0) b.0.1 = record {
        written = one.written ∷ rest.written;
        levelled = (one.levelled, rest.levelled);
        plain_is = ap (λ v. v ∷ map plain_local rest.written) one.plain_is ∙ ap (λ vs. a.0.0 ∷ vs) rest.plain_is;
        tokens = one.tokens ∙ ap (spell_local one.written) rest.tokens;
      } in
      rw (← some_is b.2) read
  locals_by_take more others ts false y is =
      let read : LocalsTaken ts [] ts = record { written = []; levelled = tt; plain_is = refl; tokens = refl } in
      rw (← some_is is) read

  locals_take : (j : ℕ) (ts : List Token) (y : List LocalDecl × List Token) → r.locals defs most expr j ts ≡ Some y → LocalsTaken ts y.0 y.1
  unfolding r.locals
  locals_take zero ts y is = cc
  locals_take (suc j) ts y is = locals_by_take (r.locals defs most expr j) (locals_take j) ts (r.is_start (start_at defs ts)) y is

  pub record StmtTaken (ts : List Token) (q : Stmt) (after : List Token) : Type 0 where
    pub written : WrittenStmt
    pub levelled : IsStmt defs written
    pub plain_is : plain_stmt written ≡ q
    pub tokens : ts ≡ spell_stmt written after
    pub ends : Ends written after

  module _ (inner : List Token → Read Stmt) (inner_takes : (ts : List Token) (y : Stmt × List Token) → inner ts ≡ Some y → StmtTaken ts y.0 y.1) where
    record StmtsTaken (ts : List Token) (qs : Stmts) (after : List Token) : Type 0 where
      written : WrittenStmts
      levelled : AreStmts defs written
      plain_is : plain_stmts written ≡ qs
      tokens : ts ≡ spell_stmts written after

    stmts_by_take : (more : List Token → Read Stmts) → ((ts : List Token) (y : Stmts × List Token) → more ts ≡ Some y → StmtsTaken ts y.0 y.1)
        → (ts : List Token) (o : Option (List Token)) (y : Stmts × List Token) → r.stmts_by defs most expr inner more ts o ≡ Some y → StmtsTaken ts y.0 y.1
    stmts_by_take more others ts (Some after) y is =
        let read : StmtsTaken ts t.no_stmts ts = record { written = z.no_stmts; levelled = tt; plain_is = refl; tokens = refl } in
        rw (← some_is is) read
    stmts_by_take more others ts None y is =
        let a = bind_some (inner ts) (λ x. more x.1 >>= λ xs. Some (t.more_stmts x.0 xs.0, xs.1)) y is in
        let one = inner_takes ts a.0 a.1 in
        let b = bind_some (more a.0.1) (λ xs. Some (t.more_stmts a.0.0 xs.0, xs.1)) y a.2 in
        let rest = others a.0.1 b.0 b.1 in
        let read : StmtsTaken ts (t.more_stmts a.0.0 b.0.0) b.0.1 = record {
          written = z.more_stmts one.written rest.written;
          levelled = (one.levelled, rest.levelled);
          plain_is = ap (λ v. t.more_stmts v (plain_stmts rest.written)) one.plain_is ∙ ap (t.more_stmts a.0.0) rest.plain_is;
          tokens = one.tokens ∙ ap (spell_stmt one.written) rest.tokens;
        } in
        rw (← some_is b.2) read

    stmts_take : (j : ℕ) (ts : List Token) (y : Stmts × List Token) → r.stmts defs most expr inner j ts ≡ Some y → StmtsTaken ts y.0 y.1
    unfolding r.stmts
    stmts_take zero ts y is = cc
    stmts_take (suc j) ts y is = stmts_by_take (r.stmts defs most expr inner j) (stmts_take j) ts (eat close_brace ts) y is

    record ItemTaken (ts : List Token) (q : SwItem) (after : List Token) : Type 0 where
      written : WrittenItem
      levelled : IsItem defs written
      plain_is : plain_item written ≡ q
      tokens : ts ≡ spell_item written after

    item_takes : (ts : List Token) (o u : Option (List Token)) (y : SwItem × List Token) → eat_word case_word ts ≡ o → eat_word default_word ts ≡ u → r.item_by defs most expr inner ts o u ≡ Some y → ItemTaken ts y.0 y.1
    item_takes ts (Some after) u y at at1 is =
        let f = word_takes case_word ts after at in
        let b = bind_some (expr 1 after) (λ e. eat colon e.1 >>= λ rest. Some (t.case (line_at ts) e.0, rest)) y is in
        let e = (expr_takes 1 after b.0 (omega arith) (omega arith) b.1).0 in
        let c = bind_some (eat colon b.0.1) (λ rest. Some (t.case (line_at ts) b.0.0, rest)) y b.2 in
        let m = eat_takes colon b.0.1 c.0 c.1 in
        let read : ItemTaken ts (t.case (line_at ts) b.0.0) c.0 = record {
          written = z.case f.0 e.written m.0;
          levelled = e.levelled;
          plain_is = ap (λ j. t.case j (w.plain e.written)) (sym f.1) ∙ ap (t.case (line_at ts)) e.plain_is;
          tokens = f.2 ∙ ap (λ v. word f.0 case_word ∷ v) (e.tokens ∙ ap (w.spell e.written) m.2);
        } in
        rw (← some_is c.2) read
    item_takes ts None (Some after) y at at1 is =
        let f = word_takes default_word ts after at1 in
        let c = bind_some (eat colon after) (λ rest. Some (t.default (line_at ts), rest)) y is in
        let m = eat_takes colon after c.0 c.1 in
        let read : ItemTaken ts (t.default (line_at ts)) c.0 = record {
          written = z.default f.0 m.0;
          levelled = tt;
          plain_is = ap t.default (sym f.1);
          tokens = f.2 ∙ ap (λ v. word f.0 default_word ∷ v) m.2;
        } in
        rw (← some_is c.2) read
    item_takes ts None None y at at1 is =
        let b = bind_some (inner ts) (λ x. Some (t.stmt x.0, x.1)) y is in
        let q = inner_takes ts b.0 b.1 in
        let read : ItemTaken ts (t.stmt b.0.0) b.0.1 = record { written = z.stmt q.written; levelled = q.levelled; plain_is = ap t.stmt q.plain_is; tokens = q.tokens } in
        rw (← some_is b.2) read

    record ItemsTaken (ts : List Token) (qs : SwItems) (after : List Token) : Type 0 where
      written : WrittenItems
      levelled : AreItems defs written
      plain_is : plain_items written ≡ qs
      tokens : ts ≡ spell_items written after

    items_by_take : (more : List Token → Read SwItems) → ((ts : List Token) (y : SwItems × List Token) → more ts ≡ Some y → ItemsTaken ts y.0 y.1)
        → (ts : List Token) (o : Option (List Token)) (y : SwItems × List Token) → r.items_by defs most expr inner more ts o ≡ Some y → ItemsTaken ts y.0 y.1
    items_by_take more others ts (Some after) y is =
        let read : ItemsTaken ts t.no_items ts = record { written = z.no_items; levelled = tt; plain_is = refl; tokens = refl } in
        rw (← some_is is) read
    items_by_take more others ts None y is =
        let a = bind_some (r.item defs most expr inner ts) (λ x. more x.1 >>= λ xs. Some (t.more_items x.0 xs.0, xs.1)) y is in
        let one = item_takes ts (eat_word case_word ts) (eat_word default_word ts) a.0 refl refl a.1 in
        let b = bind_some (more a.0.1) (λ xs. Some (t.more_items a.0.0 xs.0, xs.1)) y a.2 in
        let rest = others a.0.1 b.0 b.1 in
        let read : ItemsTaken ts (t.more_items a.0.0 b.0.0) b.0.1 = record {
          written = z.more_items one.written rest.written;
          levelled = (one.levelled, rest.levelled);
          plain_is = ap (λ v. t.more_items v (plain_items rest.written)) one.plain_is ∙ ap (t.more_items a.0.0) rest.plain_is;
          tokens = one.tokens ∙ ap (spell_item one.written) rest.tokens;
        } in
        rw (← some_is b.2) read

    items_take : (j : ℕ) (ts : List Token) (y : SwItems × List Token) → r.items defs most expr inner j ts ≡ Some y → ItemsTaken ts y.0 y.1
    unfolding r.items
    items_take zero ts y is = cc
    items_take (suc j) ts y is = items_by_take (r.items defs most expr inner j) (items_take j) ts (eat close_brace ts) y is

    pub record BlockTaken (l : ℕ) (ts : List Token) (b : Block) (after : List Token) : Type 0 where
      pub decls : List WrittenLocal
      pub stmts : WrittenStmts
      pub close : ℕ
      pub are_decls : AreLocals defs decls
      pub are_stmts : AreStmts defs stmts
      pub plain_is : record { line = l; decls = map plain_local decls; stmts = plain_stmts stmts; close_line = close } ≡ b
      pub tokens : ts ≡ spell_locals decls (spell_stmts stmts (mark close close_brace ∷ after))

    pub block_takes : (l : ℕ) (ts : List Token) (y : Block × List Token) → r.block_behind defs most expr inner l ts ≡ Some y → BlockTaken l ts y.0 y.1
    block_takes l ts y is =
        let made : List LocalDecl → Stmts → ℕ → Block = λ ds qs m. record { line = l; decls = ds; stmts = qs; close_line = m } in
        let a = bind_some (r.locals defs most expr (suc (length ts)) ts) (λ ds. r.stmts defs most expr inner (suc (length ds.1)) ds.1 >>= λ ss. eat close_brace ss.1 >>= λ after. Some (made ds.0 ss.0 (line_at ss.1), after)) y is in
        let ds = locals_take (suc (length ts)) ts a.0 a.1 in
        let b = bind_some (r.stmts defs most expr inner (suc (length a.0.1)) a.0.1) (λ ss. eat close_brace ss.1 >>= λ after. Some (made a.0.0 ss.0 (line_at ss.1), after)) y a.2 in
        let qs = stmts_take (suc (length a.0.1)) a.0.1 b.0 b.1 in
        let c = bind_some (eat close_brace b.0.1) (λ after. Some (made a.0.0 b.0.0 (line_at b.0.1), after)) y b.2 in
        let f = eat_takes close_brace b.0.1 c.0 c.1 in
        let read : BlockTaken l ts (made a.0.0 b.0.0 (line_at b.0.1)) c.0 = record {
          decls = ds.written;
          stmts = qs.written;
          close = f.0;
          are_decls = ds.levelled;
          are_stmts = qs.levelled;
          plain_is = ap (λ v. made v (plain_stmts qs.written) f.0) ds.plain_is ∙ ap (λ v. made a.0.0 v f.0) qs.plain_is ∙ ap (made a.0.0 b.0.0) (sym f.1);
          tokens = ds.tokens ∙ ap (spell_locals ds.written) (qs.tokens ∙ ap (spell_stmts qs.written) f.2);
        } in
        rw (← some_is c.2) read

    else_takes : (start ts : List Token) (l m : ℕ) (e : Written) (o : ℕ) (q : WrittenStmt) (e1 : Expr) (q1 : Stmt) (u : Option (List Token)) (y : Stmt × List Token) → IsAtLevel defs 1 e → IsStmt defs q → w.plain e ≡ e1 → plain_stmt q ≡ q1
        → start ≡ word l if_word ∷ mark m open_round ∷ w.spell e (mark o close_round ∷ spell_stmt q ts) → Ends q ts → eat_word else_word ts ≡ u → r.else_by defs most expr inner l e1 q1 ts u ≡ Some y → StmtTaken start y.0 y.1
    else_takes start ts l m e o q e1 q1 None y is_expr is_stmt expr_is stmt_is tokens ends at is =
        let read : StmtTaken start (t.if_only l e1 q1) ts = record {
          written = z.if_only l m e o q;
          levelled = (is_expr, is_stmt);
          plain_is = ap (λ v. t.if_only l v (plain_stmt q)) expr_is ∙ ap (t.if_only l e1) stmt_is;
          tokens = tokens;
          ends = λ _. at;
        } in
        rw (← some_is is) read
    else_takes start ts l m e o q e1 q1 (Some after) y is_expr is_stmt expr_is stmt_is tokens ends at is =
        let f = word_takes else_word ts after at in
        let b = bind_some (inner after) (λ v. Some (t.if_else l e1 q1 v.0, v.1)) y is in
        let s = inner_takes after b.0 b.1 in
        let read : StmtTaken start (t.if_else l e1 q1 b.0.0) b.0.1 = record {
          written = z.if_else l m e o q f.0 s.written;
          levelled = (not_open q ts after ends at, is_expr, is_stmt, s.levelled);
          plain_is = ap (λ v. t.if_else l v (plain_stmt q) (plain_stmt s.written)) expr_is ∙ ap (λ v. t.if_else l e1 v (plain_stmt s.written)) stmt_is ∙ ap (t.if_else l e1 q1) s.plain_is;
          tokens = tokens ∙ ap (λ v. word l if_word ∷ mark m open_round ∷ w.spell e (mark o close_round ∷ spell_stmt q v)) (f.2 ∙ ap (λ v. word f.0 else_word ∷ v) s.tokens);
          ends = s.ends;
        } in
        rw (← some_is b.2) read

    stmt_by_takes : (h : Token) (ts : List Token) (form : Form) (y : Stmt × List Token) → FormTaken h ts form → r.stmt_by defs most expr inner h.line ts (h ∷ ts) form ≡ Some y → StmtTaken (h ∷ ts) y.0 y.1
    stmt_by_takes h ts r.if y at is =
        let a = bind_some (r.test defs most expr ts) (λ e. inner e.1 >>= λ x. r.else_by defs most expr inner h.line e.0 x.0 x.1 (eat_word else_word x.1)) y is in
        let e = test_takes ts a.0 a.1 in
        let b = bind_some (inner a.0.1) (λ x. r.else_by defs most expr inner h.line a.0.0 x.0 x.1 (eat_word else_word x.1)) y a.2 in
        let q = inner_takes a.0.1 b.0 b.1 in
        else_takes (h ∷ ts) b.0.1 h.line e.open_line e.written e.close_line q.written a.0.0 b.0.0 (eat_word else_word b.0.1) y e.levelled q.levelled e.plain_is q.plain_is
        (at ∙ ap (λ v. word h.line if_word ∷ v) (e.tokens ∙ ap (λ v. mark e.open_line open_round ∷ w.spell e.written (mark e.close_line close_round ∷ v)) q.tokens)) q.ends refl b.2
    stmt_by_takes h ts r.while y at is =
        let a = bind_some (r.test defs most expr ts) (λ e. inner e.1 >>= λ x. Some (t.while h.line e.0 x.0, x.1)) y is in
        let e = test_takes ts a.0 a.1 in
        let b = bind_some (inner a.0.1) (λ x. Some (t.while h.line a.0.0 x.0, x.1)) y a.2 in
        let q = inner_takes a.0.1 b.0 b.1 in
        let read : StmtTaken (h ∷ ts) (t.while h.line a.0.0 b.0.0) b.0.1 = record {
          written = z.while h.line e.open_line e.written e.close_line q.written;
          levelled = (e.levelled, q.levelled);
          plain_is = ap (λ v. t.while h.line v (plain_stmt q.written)) e.plain_is ∙ ap (t.while h.line a.0.0) q.plain_is;
          tokens = at ∙ ap (λ v. word h.line while_word ∷ v) (e.tokens ∙ ap (λ v. mark e.open_line open_round ∷ w.spell e.written (mark e.close_line close_round ∷ v)) q.tokens);
          ends = q.ends;
        } in
        rw (← some_is b.2) read
    stmt_by_takes h ts r.do_while y at is =
        let a = bind_some (inner ts) (λ x. eat_word while_word x.1 >>= λ a. r.test defs most expr a >>= λ e. eat semicolon e.1 >>= λ b. Some (t.do_while h.line x.0 (line_at x.1) e.0, b)) y is in
        let q = inner_takes ts a.0 a.1 in
        let b = bind_some (eat_word while_word a.0.1) (λ v. r.test defs most expr v >>= λ e. eat semicolon e.1 >>= λ b. Some (t.do_while h.line a.0.0 (line_at a.0.1) e.0, b)) y a.2 in
        let f = word_takes while_word a.0.1 b.0 b.1 in
        let c = bind_some (r.test defs most expr b.0) (λ e. eat semicolon e.1 >>= λ b. Some (t.do_while h.line a.0.0 (line_at a.0.1) e.0, b)) y b.2 in
        let e = test_takes b.0 c.0 c.1 in
        let s = bind_some (eat semicolon c.0.1) (λ b. Some (t.do_while h.line a.0.0 (line_at a.0.1) c.0.0, b)) y c.2 in
        let m = eat_takes semicolon c.0.1 s.0 s.1 in
        let read : StmtTaken (h ∷ ts) (t.do_while h.line a.0.0 (line_at a.0.1) c.0.0) s.0 = record {
          written = z.do_while h.line q.written f.0 e.open_line e.written e.close_line m.0;
          levelled = (q.levelled, e.levelled);
          plain_is = ap (λ v. t.do_while h.line v f.0 (w.plain e.written)) q.plain_is ∙ ap (λ j. t.do_while h.line a.0.0 j (w.plain e.written)) (sym f.1) ∙ ap (t.do_while h.line a.0.0 (line_at a.0.1)) e.plain_is;
          tokens = at ∙ ap (λ v. word h.line do_word ∷ v) (q.tokens ∙ ap (spell_stmt q.written) (f.2 ∙ ap (λ v. word f.0 while_word ∷ v) (e.tokens ∙ ap (λ v. mark e.open_line open_round ∷ w.spell e.written (mark e.close_line close_round ∷ v)) m.2)));
          ends = never_open (z.do_while h.line q.written f.0 e.open_line e.written e.close_line m.0) s.0 refl;
        } in
        rw (← some_is s.2) read
    stmt_by_takes h ts r.for y at is =
        let make : Option Expr → Option Expr → Option Expr → Stmt → Stmt = t.for h.line in
        let a = bind_some (eat open_round ts) (λ a. r.maybe defs most expr semicolon a >>= λ e1. r.maybe defs most expr semicolon e1.1 >>= λ e2. r.maybe defs most expr close_round e2.1 >>= λ e3. inner e3.1 >>= λ x. Some (make e1.0 e2.0 e3.0 x.0, x.1)) y is in
        let f = eat_takes open_round ts a.0 a.1 in
        let b = bind_some (r.maybe defs most expr semicolon a.0) (λ e1. r.maybe defs most expr semicolon e1.1 >>= λ e2. r.maybe defs most expr close_round e2.1 >>= λ e3. inner e3.1 >>= λ x. Some (make e1.0 e2.0 e3.0 x.0, x.1)) y a.2 in
        let e1 = maybe_takes semicolon a.0 (eat semicolon a.0) b.0 refl b.1 in
        let c = bind_some (r.maybe defs most expr semicolon b.0.1) (λ e2. r.maybe defs most expr close_round e2.1 >>= λ e3. inner e3.1 >>= λ x. Some (make b.0.0 e2.0 e3.0 x.0, x.1)) y b.2 in
        let e2 = maybe_takes semicolon b.0.1 (eat semicolon b.0.1) c.0 refl c.1 in
        let s = bind_some (r.maybe defs most expr close_round c.0.1) (λ e3. inner e3.1 >>= λ x. Some (make b.0.0 c.0.0 e3.0 x.0, x.1)) y c.2 in
        let e3 = maybe_takes close_round c.0.1 (eat close_round c.0.1) s.0 refl s.1 in
        let u = bind_some (inner s.0.1) (λ x. Some (make b.0.0 c.0.0 s.0.0 x.0, x.1)) y s.2 in
        let q = inner_takes s.0.1 u.0 u.1 in
        let read : StmtTaken (h ∷ ts) (make b.0.0 c.0.0 s.0.0 u.0.0) u.0.1 = record {
          written = z.for h.line f.0 e1.written e1.line e2.written e2.line e3.written e3.line q.written;
          levelled = (e1.levelled, e2.levelled, e3.levelled, q.levelled);
          plain_is = ap (λ v. make v (plain_if w.plain e2.written) (plain_if w.plain e3.written) (plain_stmt q.written)) e1.plain_is ∙ ap (λ v. make b.0.0 v (plain_if w.plain e3.written) (plain_stmt q.written)) e2.plain_is
              ∙ ap (λ v. make b.0.0 c.0.0 v (plain_stmt q.written)) e3.plain_is ∙ ap (make b.0.0 c.0.0 s.0.0) q.plain_is;
          tokens = at ∙ ap (λ v. word h.line for_word ∷ v) (f.2 ∙ ap (λ v. mark f.0 open_round ∷ v) (e1.tokens ∙ ap (λ v. spell_if w.spell e1.written (mark e1.line semicolon ∷ v))
              (e2.tokens ∙ ap (λ v. spell_if w.spell e2.written (mark e2.line semicolon ∷ v)) (e3.tokens ∙ ap (λ v. spell_if w.spell e3.written (mark e3.line close_round ∷ v)) q.tokens))));
          ends = q.ends;
        } in
        rw (← some_is u.2) read
    stmt_by_takes h ts r.switch y at is =
        let a = bind_some (r.test defs most expr ts) (λ e. eat open_brace e.1 >>= λ a. r.items defs most expr inner (suc (length a)) a >>= λ xs. eat close_brace xs.1 >>= λ b. Some (t.switch h.line e.0 xs.0, b)) y is in
        let e = test_takes ts a.0 a.1 in
        let b = bind_some (eat open_brace a.0.1) (λ v. r.items defs most expr inner (suc (length v)) v >>= λ xs. eat close_brace xs.1 >>= λ b. Some (t.switch h.line a.0.0 xs.0, b)) y a.2 in
        let f = eat_takes open_brace a.0.1 b.0 b.1 in
        let c = bind_some (r.items defs most expr inner (suc (length b.0)) b.0) (λ xs. eat close_brace xs.1 >>= λ b. Some (t.switch h.line a.0.0 xs.0, b)) y b.2 in
        let qs = items_take (suc (length b.0)) b.0 c.0 c.1 in
        let s = bind_some (eat close_brace c.0.1) (λ b. Some (t.switch h.line a.0.0 c.0.0, b)) y c.2 in
        let m = eat_takes close_brace c.0.1 s.0 s.1 in
        let read : StmtTaken (h ∷ ts) (t.switch h.line a.0.0 c.0.0) s.0 = record {
          written = z.switch h.line e.open_line e.written e.close_line f.0 qs.written m.0;
          levelled = (e.levelled, qs.levelled);
          plain_is = ap (λ v. t.switch h.line v (plain_items qs.written)) e.plain_is ∙ ap (t.switch h.line a.0.0) qs.plain_is;
          tokens = at ∙ ap (λ v. word h.line switch_word ∷ v) (e.tokens ∙ ap (λ v. mark e.open_line open_round ∷ w.spell e.written (mark e.close_line close_round ∷ v)) (f.2 ∙ ap (λ v. mark f.0 open_brace ∷ v) (qs.tokens ∙ ap (spell_items qs.written) m.2)));
          ends = never_open (z.switch h.line e.open_line e.written e.close_line f.0 qs.written m.0) s.0 refl;
        } in
        rw (← some_is s.2) read
    stmt_by_takes h ts r.break y at is =
        let a = bind_some (eat semicolon ts) (λ v. Some (t.break h.line, v)) y is in
        let m = eat_takes semicolon ts a.0 a.1 in
        let read : StmtTaken (h ∷ ts) (t.break h.line) a.0 = record {
          written = z.break h.line m.0;
          levelled = tt;
          plain_is = refl;
          tokens = at ∙ ap (λ v. word h.line break_word ∷ v) m.2;
          ends = never_open (z.break h.line m.0) a.0 refl;
        } in
        rw (← some_is a.2) read
    stmt_by_takes h ts r.continue y at is =
        let a = bind_some (eat semicolon ts) (λ v. Some (t.continue h.line, v)) y is in
        let m = eat_takes semicolon ts a.0 a.1 in
        let read : StmtTaken (h ∷ ts) (t.continue h.line) a.0 = record {
          written = z.continue h.line m.0;
          levelled = tt;
          plain_is = refl;
          tokens = at ∙ ap (λ v. word h.line continue_word ∷ v) m.2;
          ends = never_open (z.continue h.line m.0) a.0 refl;
        } in
        rw (← some_is a.2) read
    stmt_by_takes h ts r.return y at is =
        let a = bind_some (r.maybe defs most expr semicolon ts) (λ e. Some (t.return h.line e.0, e.1)) y is in
        let e = maybe_takes semicolon ts (eat semicolon ts) a.0 refl a.1 in
        let read : StmtTaken (h ∷ ts) (t.return h.line a.0.0) a.0.1 = record {
          written = z.return h.line e.written e.line;
          levelled = e.levelled;
          plain_is = ap (t.return h.line) e.plain_is;
          tokens = at ∙ ap (λ v. word h.line return_word ∷ v) e.tokens;
          ends = never_open (z.return h.line e.written e.line) a.0.1 refl;
        } in
        rw (← some_is a.2) read
    stmt_by_takes h ts r.empty y at is =
        let read : StmtTaken (h ∷ ts) (t.empty h.line) ts = record { written = z.empty h.line; levelled = tt; plain_is = refl; tokens = at; ends = never_open (z.empty h.line) ts refl } in
        rw (← some_is is) read
    stmt_by_takes h ts r.block y at is =
        let of_block : Block → Stmt = λ b. t.block b.line b.decls b.stmts b.close_line in
        let a = bind_some (r.block_behind defs most expr inner h.line ts) (λ b. Some (of_block b.0, b.1)) y is in
        let b = block_takes h.line ts a.0 a.1 in
        let read : StmtTaken (h ∷ ts) (of_block a.0.0) a.0.1 = record {
          written = z.block h.line b.decls b.stmts b.close;
          levelled = (b.are_decls, b.are_stmts);
          plain_is = ap of_block b.plain_is;
          tokens = at ∙ ap (λ v. mark h.line open_brace ∷ v) b.tokens;
          ends = never_open (z.block h.line b.decls b.stmts b.close) a.0.1 refl;
        } in
        rw (← some_is a.2) read
    stmt_by_takes h ts r.expr y at is =
        let a = bind_some (expr 1 (h ∷ ts)) (λ e. eat semicolon e.1 >>= λ v. Some (t.expr h.line e.0, v)) y is in
        let e = (expr_takes 1 (h ∷ ts) a.0 (omega arith) (omega arith) a.1).0 in
        let b = bind_some (eat semicolon a.0.1) (λ v. Some (t.expr h.line a.0.0, v)) y a.2 in
        let m = eat_takes semicolon a.0.1 b.0 b.1 in
        let line : w.first e.written ≡ h.line = sym (line_first e.written a.0.1) ∙ ap line_at (sym e.tokens) in
        let read : StmtTaken (h ∷ ts) (t.expr h.line a.0.0) b.0 = record {
          written = z.expr e.written m.0;
          levelled = e.levelled;
          plain_is = ap (λ j. t.expr j (w.plain e.written)) line ∙ ap (t.expr h.line) e.plain_is;
          tokens = e.tokens ∙ ap (w.spell e.written) m.2;
          ends = never_open (z.expr e.written m.0) b.0 refl;
        } in
        rw (← some_is b.2) read

    stmt_at_takes : (ts : List Token) (y : Stmt × List Token) → r.stmt_at defs most expr inner ts ≡ Some y → StmtTaken ts y.0 y.1
    stmt_at_takes [] y is = cc
    stmt_at_takes (h ∷ ts) y is = stmt_by_takes h ts (form_of h.kind) y (tok_taken h ts h.kind refl) is

  -- What is read of a statement is spelled so, and no `else` follows that would be a part of it.
  pub stmt_takes : (n : ℕ) (ts : List Token) (y : Stmt × List Token) → r.stmt defs most expr n ts ≡ Some y → StmtTaken ts y.0 y.1
  unfolding r.stmt
  stmt_takes zero ts y is = cc
  stmt_takes (suc n) ts y is = stmt_at_takes (r.stmt defs most expr n) (stmt_takes n) ts y is
