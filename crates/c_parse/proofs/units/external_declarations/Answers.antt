use Rattle.std.proofs.Common.{◌≡◌, ℕ, ◌+◌, ◌-◌, List, [], ◌∷◌, ◌++◌, length, length-drop, map, drop, arith, ap, sym, ◌∙◌}
use Rattle.std.proofs.lemmas.Result.{err_from_is_err_and}
use Rattle.std.proofs.lemmas.List.{map-append, drop_all}
use Rattle.c_lex.specs.Tokens.{Token}
use Rattle.c_tree.specs.TreeUnit.{Ext}
use Rattle.c_tree.specs.TreeOf.{ext_of}
use Rattle.c_lex.specs.Shown.{tokens_of}
use Rattle.c_expr.specs.Typedefs.{names_of}
use Rattle.c_parse.specs.Units as u
use Rattle.c_parse.proofs.Exts.{before, exts_turn, exts_over, exts_refused, exts_spent}
use Rattle.c_parse.proofs.Refused.{handed_on}
use Rattle.c_parse.proofs.units.external_declarations.Goals as goal

pub returns-then-at-count : goal.returns-then-at-count
returns-then-at-count c =
    let ts = tokens_of c.args.t.now in
    record {
      read = sym c.loop-turn.invariant ∙ exts_over _ (length ts - c.loop-turn._turn) (names_of c.loop-turn.defs) (map ext_of c.loop-turn.exts.items) (drop c.loop-turn.at ts) (omega arith) (drop_all c.loop-turn.at ts (omega arith));
    }

pub returns-in_err-ext : goal.returns-in_err-ext
returns-in_err-ext c =
    let ts = tokens_of c.args.t.now in
    record {
      read = handed_on (λ v. map ext_of v.items) c.from_residual.result c.in_err-ext.field-0.0 (u.ext (names_of c.loop-turn.defs) (drop c.loop-turn.at ts)) _ (err_from_is_err_and c.from_residual.result c.from_residual.ensures.1)
          (λ none. sym c.loop-turn.invariant ∙ exts_refused _ (length ts - c.loop-turn._turn) (names_of c.loop-turn.defs) (map ext_of c.loop-turn.exts.items) (drop c.loop-turn.at ts) (omega arith) (omega (arith, length-drop c.loop-turn.at ts)) none)
          c.in_err-ext.ensures.read;
    }

pub loop-turn-preserved : goal.loop-turn-preserved
loop-turn-preserved c =
    let ts = tokens_of c.args.t.now in
    let defs = names_of c.loop-turn.defs in
    let xs : List Ext = map ext_of c.loop-turn.exts.items in
    let x : Ext = ext_of c.in_ok-ext.ext in
    let more : ℕ = length ts + 1 - (c.loop-turn._turn + 1) in
    let after : List Token = drop c.in_ok-ext.after ts in
    let pushed : map ext_of c.push.new.self.items ≡ xs ++ x ∷ [] = ap (map ext_of) c.in_ok-push.ensures.items ∙ map-append ext_of c.loop-turn.exts.items (c.in_ok-ext.ext ∷ []) in
    ap (λ ys. before ys (u.exts more (names_of c.external_declaration.new.defs) after)) pushed
    ∙ ap (λ ds. before (xs ++ x ∷ []) (u.exts more ds after)) c.in_ok-ext.ensures.names
    ∙ exts_turn (length ts + 1 - c.loop-turn._turn) more defs xs x (drop c.loop-turn.at ts) after (omega (arith, c.loop-turn-test.true)) (omega (arith, length-drop c.loop-turn.at ts)) c.in_ok-ext.ensures.read
    ∙ c.loop-turn.invariant

pub returns : goal.returns
returns c =
    let ts = tokens_of c.args.t.now in
    record { read = sym c.loop-turn.invariant ∙ exts_spent _ (names_of c.loop-turn.defs) (map ext_of c.loop-turn.exts.items) (drop c.loop-turn.at ts) (omega (arith, c.loop-turn-test.false)) }
