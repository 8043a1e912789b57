use Rattle.std.proofs.Common.{◌≡◌, ◌+◌, ◌-◌, length, sym, ap, ◌∙◌, arith, ◌++◌, ◌∷◌, []}
use Rattle.c_lex.specs.Reading.{text}
use Rattle.c_lex.proofs.Texts.{text_done, text_next}
use Rattle.c_lex.proofs.quoted.text.Goals as goal

pub returns-in-Some : goal.returns-in-Some
returns-in-Some c = sym (c.loop-turn.invariant ∙ text_done (length c.args.bytes.now + 1 - c.loop-turn._turn) (length c.args.bytes.now - c.loop-turn._turn) c.loop-turn.values.items c.loop-turn.rest.now c.in-Some.after.now (omega arith) c.in-Some.ensures)

pub loop-turn-preserved : goal.loop-turn-preserved
loop-turn-preserved c =
    let pushed : c.push.new.self.items ≡ c.loop-turn.values.items ++ c.in-Some-item.value ∷ [] = c.in_ok-push.ensures.items in
    c.loop-turn.invariant
    ∙ text_next (length c.args.bytes.now + 1 - c.loop-turn._turn) (length c.args.bytes.now + 1 - (c.loop-turn._turn + 1)) c.loop-turn.values.items c.loop-turn.rest.now c.in-Some-item.after.now c.in-Some-item.value (omega arith) c.in_default.ensures c.in-Some-item.ensures
    ∙ ap (λ xs. text (length c.args.bytes.now + 1 - (c.loop-turn._turn + 1)) xs c.in-Some-item.after.now) (sym pushed)
