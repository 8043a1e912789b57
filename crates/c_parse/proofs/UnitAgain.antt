-- A unit that is spelled is read, so that at most one unit is spelled by given tokens.
use Rattle.std.proofs.Common.{◌≡◌, ℕ, ◌+◌, ◌<◌, ◌≤◌, zero, suc, List, [], ◌∷◌, length, map, Some, true, refl, arith, ap, sym, subst, ◌∙◌}
use Rattle.std.proofs.lemmas.Bool.{le-ltb}
use Rattle.c_type.specs.Names.{Name}
use Rattle.c_lex.specs.Tokens.{Token}
use Rattle.c_grammar.specs.Words.{mark, close_brace}
use Rattle.c_tree.specs.TreeExpr.{Expr, expr_depth, deepest}
use Rattle.c_tree.specs.TreeUnit.{Ext, ext_depth, head_depth, unit_depth}
use Rattle.c_tree.specs.TreeUnit as t
use Rattle.c_grammar.specs.WrittenExpr.{Written, IsAtLevel}
use Rattle.c_grammar.specs.WrittenExpr as w
use Rattle.c_grammar.specs.WrittenStmt.{WrittenBlock, spell_stmts, spell_block}
use Rattle.c_grammar.specs.WrittenUnit.{WrittenExt, plain_ext, plain_head, IsExt, AreExts, spell_ext, spell_exts, with_typedefs, plain_unit}
use Rattle.c_grammar.specs.WrittenUnit as u
use Rattle.c_grammar.specs.Reads.{may_follow, most, ReadsTokens}
use Rattle.c_expr.specs.Front.{Read, ◌>>=◌}
use Rattle.c_expr.proofs.Taken.{some_is}
use Rattle.c_decl.proofs.OutsideAgain.{whole_again, head_again, ext_longer}
use Rattle.c_parse.specs.ReadStmt as r
use Rattle.c_parse.specs.ReadUnit as q
use Rattle.c_parse.proofs.StmtAgain.{block_again, stmt_again, locals_longer, stmts_longer}

block_longer : (b : WrittenBlock) (ts : List Token) → length ts < length (spell_block b ts)
block_longer b ts = omega (arith, locals_longer b.decls (spell_stmts b.stmts (mark b.close_line close_brace ∷ ts)), stmts_longer b.stmts (mark b.close_line close_brace ∷ ts))

module _ (most : ℕ) (expr : List Name → ℕ → List Token → Read Expr)
    (expr_again : (defs : List Name) (l : ℕ) (e : Written) (after : List Token) → 1 ≤ l → l ≤ 3 → IsAtLevel defs l e → expr_depth (w.plain e) ≤ most → may_follow l after ≡ true → expr defs l (w.spell e after) ≡ Some (w.plain e, after)) where
  ext_again : (defs : List Name) (x : WrittenExt) (after : List Token) → IsExt defs x → ext_depth (plain_ext x) ≤ most → q.ext most expr defs (spell_ext x after) ≡ Some (plain_ext x, after)
  ext_again defs (u.typedef ps ds l) after ok low = rw (whole_again defs most (expr defs) (expr_again defs) (u.typedef ps ds l) after ok refl low) refl
  ext_again defs (u.tag_only g l) after ok low = rw (whole_again defs most (expr defs) (expr_again defs) (u.tag_only g l) after ok refl low) refl
  ext_again defs (u.object ps is l) after ok low = rw (whole_again defs most (expr defs) (expr_again defs) (u.object ps is l) after ok refl low) refl
  ext_again defs (u.func h b) after ok low =
      rw (
        head_again defs most (expr defs) (expr_again defs) h (spell_block b after) ok.0 (omega arith) refl,
        block_again defs most (expr defs) (expr_again defs) most (r.stmt defs most (expr defs) most) (stmt_again defs most (expr defs) (expr_again defs) most) b.line b.decls b.stmts b.close_line after
            (ok.1.0) (ok.1.1) (omega arith) (omega arith) (omega arith),
      ) refl

  exts_end : (j : ℕ) (defs : List Name) → q.exts most expr (suc j) defs [] ≡ Some []
  unfolding q.exts
  exts_end j defs = refl

  exts_step : (j : ℕ) (defs : List Name) (ts : List Token) (e : Ext) (rest : List Token) → 1 ≤ length ts → q.ext most expr defs ts ≡ Some (e, rest)
      → q.exts most expr (suc j) defs ts ≡ (q.exts most expr j (with_typedefs defs e) rest >>= λ es. Some (e ∷ es))
  unfolding q.exts
  exts_step j defs [] e rest some is = absurd (omega (arith, some))
  exts_step j defs (y ∷ ts) e rest some is = rw is refl

  exts_again : (j : ℕ) (defs : List Name) (xs : List WrittenExt) → AreExts defs xs → deepest ext_depth (map plain_ext xs) ≤ most → length xs < j → q.exts most expr j defs (spell_exts xs []) ≡ Some (map plain_ext xs)
  exts_again zero defs xs ok low room = absurd (omega arith)
  exts_again (suc j) defs [] ok low room = exts_end j defs
  exts_again (suc j) defs (x ∷ xs) ok low room =
      exts_step j defs (spell_ext x (spell_exts xs [])) (plain_ext x) (spell_exts xs []) (omega (arith, ext_longer block_longer x (spell_exts xs []))) (ext_again defs x (spell_exts xs []) ok.0 (omega arith))
      ∙ rw (exts_again j (with_typedefs defs (plain_ext x)) xs ok.1 (omega arith) (omega arith)) refl

  exts_longer : (xs : List WrittenExt) (ts : List Token) → length xs + length ts ≤ length (spell_exts xs ts)
  exts_longer [] ts = omega arith
  exts_longer (x ∷ xs) ts = omega (arith, ext_longer block_longer x (spell_exts xs ts), exts_longer xs ts)

  -- A unit that is spelled is read.
  pub unit_again : (xs : List WrittenExt) → AreExts [] xs → unit_depth (plain_unit xs) ≤ most → q.unit most expr (spell_exts xs []) ≡ Some (plain_unit xs)
  unit_again xs ok low =
      rw (exts_again (suc (length (spell_exts xs []))) [] xs ok (omega arith) (omega (arith, exts_longer xs [])), le-ltb most (unit_depth (plain_unit xs)) low) refl

module _ (expr : List Name → ℕ → List Token → Read Expr)
    (expr_again : (defs : List Name) (l : ℕ) (e : Written) (after : List Token) → 1 ≤ l → l ≤ 3 → IsAtLevel defs l e → expr_depth (w.plain e) ≤ most → may_follow l after ≡ true → expr defs l (w.spell e after) ≡ Some (w.plain e, after)) where
  pub unit_reads : (ts : List Token) (y : t.Unit) → ReadsTokens ts y → q.unit most expr ts ≡ Some y
  unit_reads ts y x =
      let low : unit_depth (plain_unit x.written) ≤ most = subst (λ v. unit_depth v ≤ most) (sym x.plain_is) x.low in
      ap (q.unit most expr) x.tokens ∙ unit_again most expr expr_again x.written x.levelled low ∙ ap Some x.plain_is

  -- At most one unit is spelled by the tokens.
  pub one_unit : (ts : List Token) (y z : t.Unit) → ReadsTokens ts y → ReadsTokens ts z → y ≡ z
  one_unit ts y z a b = some_is (sym (unit_reads ts y a) ∙ unit_reads ts z b)
