-- What is read of a unit is spelled so, and with it: the unit that is read is the one that the tokens spell.
use Rattle.std.proofs.Common.{◌≡◌, ℕ, ◌≤◌, zero, suc, List, [], ◌∷◌, length, map, Some, None, true, nat_lt, refl, arith, ap, sym, subst, ◌∙◌, inl, inr}
use Rattle.std.proofs.lemmas.Bool.{ltb-false}
use Rattle.c_type.specs.Names.{Name}
use Rattle.c_lex.specs.Tokens.{Token}
use Rattle.c_grammar.specs.Words.{mark, open_brace}
use Rattle.c_tree.specs.TreeExpr.{Expr, expr_depth}
use Rattle.c_tree.specs.TreeStmt.{Block}
use Rattle.c_tree.specs.TreeUnit.{Ext, unit_depth}
use Rattle.c_tree.specs.TreeUnit as t
use Rattle.c_grammar.specs.WrittenExpr.{Written, IsAtLevel}
use Rattle.c_grammar.specs.WrittenExpr as w
use Rattle.c_grammar.specs.WrittenUnit.{WrittenExt, plain_ext, plain_head, IsExt, AreExts, spell_ext, spell_head, spell_exts, with_typedefs, plain_unit}
use Rattle.c_grammar.specs.WrittenUnit as u
use Rattle.c_grammar.specs.Reads.{may_follow, most, Spells, AreShallow, ReadsTokens}
use Rattle.c_expr.specs.Front.{Read, ◌>>=◌, eat, line_at}
use Rattle.c_decl.specs.ReadDecl.{Outside, outside}
use Rattle.c_decl.specs.ReadDecl as d
use Rattle.c_expr.proofs.Taken.{some_is, bind_some, chosen, eat_takes}
use Rattle.c_decl.proofs.OutsideTakes.{OutsideTaken, outside_takes}
use Rattle.c_parse.specs.ReadStmt as r
use Rattle.c_parse.specs.ReadUnit as q
use Rattle.c_parse.proofs.StmtTakes.{stmt_takes, block_takes}
use Rattle.c_parse.proofs.UnitAgain.{unit_reads}

record ExtTaken (defs : List Name) (ts : List Token) (y : Ext) (after : List Token) : Type 0 where
  written : WrittenExt
  levelled : IsExt defs written
  plain_is : plain_ext written ≡ y
  tokens : ts ≡ spell_ext written after

record ExtsTaken (defs : List Name) (ts : List Token) (ys : List Ext) : Type 0 where
  written : List WrittenExt
  levelled : AreExts defs written
  plain_is : map plain_ext written ≡ ys
  tokens : ts ≡ spell_exts written []

module _ (most : ℕ) (positive : 1 ≤ most) (expr : List Name → ℕ → List Token → Read Expr)
    (expr_takes : (defs : List Name) (l : ℕ) (ts : List Token) (x : Expr × List Token) → 1 ≤ l → l ≤ 3 → expr defs l ts ≡ Some x → Spells defs l x.0 ts x.1 × (expr_depth x.0 ≤ most)) where
  ext_by_takes : (defs : List Name) (ts : List Token) (o : Outside) (rest : List Token) (y : Ext × List Token) → OutsideTaken defs most ts o rest → q.ext_by most expr defs o rest ≡ Some y → ExtTaken defs ts y.0 y.1
  ext_by_takes defs ts (d.whole e) rest y taken is =
      let read : ExtTaken defs ts e rest = record { written = taken.written; levelled = taken.levelled; plain_is = taken.plain_is; tokens = taken.tokens } in
      rw (← some_is is) read
  ext_by_takes defs ts (d.head h) rest y taken is =
      let inner : List Token → Read _ = r.stmt defs most (expr defs) most in
      let made : t.FuncHead → Block → Ext = λ v b. t.func v.line v.specs v.declr v.params b in
      let a = bind_some (eat open_brace rest) (λ a. r.block_behind defs most (expr defs) inner (line_at rest) a >>= λ b. Some (made h b.0, b.1)) y is in
      let f = eat_takes open_brace rest a.0 a.1 in
      let c = bind_some (r.block_behind defs most (expr defs) inner (line_at rest) a.0) (λ b. Some (made h b.0, b.1)) y a.2 in
      let b = block_takes defs most positive (expr defs) (expr_takes defs) inner (stmt_takes defs most positive (expr defs) (expr_takes defs) most) (line_at rest) a.0 c.0 c.1 in
      let brace : rest ≡ mark (line_at rest) open_brace ∷ a.0 = f.2 ∙ ap (λ l. mark l open_brace ∷ a.0) (sym f.1) in
      let read : ExtTaken defs ts (made h c.0.0) c.0.1 = record {
        written = u.func taken.written (record { line = line_at rest; decls = b.decls; stmts = b.stmts; close_line = b.close });
        levelled = (taken.levelled, (b.are_decls, b.are_stmts));
        plain_is = ap (made (plain_head taken.written)) b.plain_is ∙ ap (λ v. made v c.0.0) taken.plain_is;
        tokens = taken.tokens ∙ ap (spell_head taken.written) (brace ∙ ap (λ v. mark (line_at rest) open_brace ∷ v) b.tokens);
      } in
      rw (← some_is c.2) read

  ext_takes : (defs : List Name) (ts : List Token) (y : Ext × List Token) → q.ext most expr defs ts ≡ Some y → ExtTaken defs ts y.0 y.1
  ext_takes defs ts y is =
      let b = bind_some (outside defs most (expr defs) ts) (λ o. q.ext_by most expr defs o.0 o.1) y is in
      ext_by_takes defs ts b.0.0 b.0.1 y (outside_takes defs most positive (expr defs) (expr_takes defs) ts b.0 b.1) b.2

  exts_take : (j : ℕ) (defs : List Name) (ts : List Token) (ys : List Ext) → q.exts most expr j defs ts ≡ Some ys → ExtsTaken defs ts ys
  unfolding q.exts
  exts_take zero defs ts ys is = cc
  exts_take (suc j) defs [] ys is =
      let read : ExtsTaken defs [] [] = record { written = []; levelled = tt; plain_is = refl; tokens = refl } in
      rw (← some_is is) read
  exts_take (suc j) defs (x ∷ ts) ys is =
      let a = bind_some (q.ext most expr defs (x ∷ ts)) (λ e. q.exts most expr j (with_typedefs defs e.0) e.1 >>= λ es. Some (e.0 ∷ es)) ys is in
      let one = ext_takes defs (x ∷ ts) a.0 a.1 in
      let b = bind_some (q.exts most expr j (with_typedefs defs a.0.0) a.0.1) (λ es. Some (a.0.0 ∷ es)) ys a.2 in
      let rest = exts_take j (with_typedefs defs a.0.0) a.0.1 b.0 b.1 in
      let read : ExtsTaken defs (x ∷ ts) (a.0.0 ∷ b.0) = record {
        written = one.written ∷ rest.written;
        levelled = (one.levelled, subst (λ v. AreExts (with_typedefs defs v) rest.written) (sym one.plain_is) rest.levelled);
        plain_is = ap (λ v. v ∷ map plain_ext rest.written) one.plain_is ∙ ap (λ vs. a.0.0 ∷ vs) rest.plain_is;
        tokens = one.tokens ∙ ap (spell_ext one.written) rest.tokens;
      } in
      rw (← some_is b.2) read

  pub record UnitTaken (ts : List Token) (y : t.Unit) : Type 0 where
    pub written : List WrittenExt
    pub levelled : AreExts [] written
    pub plain_is : plain_unit written ≡ y
    pub tokens : ts ≡ spell_exts written []
    pub low : unit_depth y ≤ most

  -- What is read of a unit is spelled so.
  pub unit_takes : (ts : List Token) (y : t.Unit) → q.unit most expr ts ≡ Some y → UnitTaken ts y
  unit_takes ts y is =
      let made : List Ext → t.Unit = λ es. record { exts = es } in
      let b = bind_some (q.exts most expr (suc (length ts)) [] ts) (q.unit_of most expr) y is in
      let xs = exts_take (suc (length ts)) [] ts b.0 b.1 in
      elim (chosen (nat_lt most (unit_depth (made b.0))) None (Some (made b.0)) (Some y) b.2) [
        | inl h ↦ cc (h.1)
        | inr h ↦
            let same : made b.0 ≡ y = some_is h.1 in
            record { written = xs.written; levelled = xs.levelled; plain_is = ap made xs.plain_is ∙ same; tokens = xs.tokens; low = subst (λ v. unit_depth v ≤ most) same (ltb-false most (unit_depth (made b.0)) h.0) }
      ]

-- What reads an expression, for each list of typedef names: what is spelled is read, and what is read is spelled so.
pub record ReadsExprs (expr : List Name → ℕ → List Token → Read Expr) : Type 0 where
  pub again : (defs : List Name) (l : ℕ) (e : Written) (after : List Token) → 1 ≤ l → l ≤ 3 → IsAtLevel defs l e → expr_depth (w.plain e) ≤ most → may_follow l after ≡ true → expr defs l (w.spell e after) ≡ Some (w.plain e, after)
  pub takes : (defs : List Name) (l : ℕ) (ts : List Token) (x : Expr × List Token) → 1 ≤ l → l ≤ 3 → expr defs l ts ≡ Some x → Spells defs l x.0 ts x.1 × (expr_depth x.0 ≤ most)

-- Where no more than the greatest number of brackets are open, the tokens spell the unit exactly where it is read.
pub unit_found : (expr : List Name → ℕ → List Token → Read Expr) → ReadsExprs expr → (ts : List Token) (y : t.Unit) → AreShallow 0 ts → q.unit most expr ts ≡ Some y → ReadsTokens ts y
unit_found expr reads ts y shallow is =
    let x = unit_takes most (omega arith) expr reads.takes ts y is in
    record { written = x.written; levelled = x.levelled; plain_is = x.plain_is; tokens = x.tokens; low = x.low; shallow = shallow }

pub unit_none : (expr : List Name → ℕ → List Token → Read Expr) → ReadsExprs expr → (ts : List Token) → q.unit most expr ts ≡ None → (y : t.Unit) → ReadsTokens ts y → ⊥
unit_none expr reads ts is y x = let found = unit_reads expr reads.again ts y x in cc
