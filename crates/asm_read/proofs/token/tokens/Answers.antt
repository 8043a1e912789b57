use Rattle.std.proofs.Common.{◌∙◌, sym, refl, arith}
use Rattle.asm_read.proofs.Scanned.{word_on, text_on, text_open}
use Rattle.asm_read.proofs.token.tokens.Goals as goal

pub loop-at-preserved-then-is_name_byte : goal.loop-at-preserved-then-is_name_byte
loop-at-preserved-then-is_name_byte c = (
  c.word_end-end.ensures.within,
  word_on c.args.line.now c.loop-at.at c.word_end-end.result c.loop-at.out.items c.push.new.self.items _ c.loop-at-test.true (sym c.is_name_byte.ensures.value ∙ c.if-is_name_byte.true) c.word_end-end.ensures.value refl c.in_ok-push.ensures.items c.loop-at.invariant.1,
)

pub loop-at-preserved-in-Some : goal.loop-at-preserved-in-Some
loop-at-preserved-in-Some c = (
  omega (arith, c.in-Some.ensures.within.1),
  text_on c.args.line.now c.loop-at.at c.in-Some.end c.loop-at.out.items c.push-in-Some.new.self.items _ c.loop-at-test.true c.if-c-eq34.true (sym c.in-Some.is ∙ c.text_end.ensures.value) refl c.in_ok-push-in-Some.ensures.items c.loop-at.invariant.1,
)

pub returns-in-None : goal.returns-in-None
returns-in-None c =
    text_open c.args.line.now c.loop-at.at c.loop-at.out.items c.push-in-None.new.self.items c.loop-at-test.true c.if-c-eq34.true (sym c.in-None.is ∙ c.text_end.ensures.value) c.in_ok-push-in-None.ensures.items c.loop-at.invariant.1
