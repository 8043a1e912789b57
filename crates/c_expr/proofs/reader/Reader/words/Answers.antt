use Rattle.std.proofs.Common.{ap, sym, ◌∙◌, Some}
use Rattle.std.specs.Option.{option_map}
use Rattle.c_tree.specs.TreeOf.{type_spec_of}
use Rattle.c_expr.specs.Part as p
use Rattle.c_expr.specs.Parts.{names}
use Rattle.c_expr.specs.Shown.{left}
use Rattle.c_expr.specs.Tally.{word_of}
use Rattle.c_expr.specs.Types.{before}
use Rattle.c_expr.proofs.Told.{types_told, told_begins, part_fewer, word_turn, words_end, words_broken, no_word, the_word}
use Rattle.c_expr.proofs.reader.Reader.words.Goals as goal

pub loop-part-smaller : goal.loop-part-smaller
loop-part-smaller c = part_fewer (names c.args.self.now) c.loop-part.ahead.tokens.now c.in-Some.after.tokens.now (p.part_of c.in-Some.part) c.in-Some.ensures

pub loop-part-preserved : goal.loop-part-preserved
loop-part-preserved c =
    ap (λ t. types_told (names c.args.self.now) t (left c.in-Some.after)) c.with-seen-in-Some.ensures.word
    ∙ sym (word_turn (names c.args.self.now) c.loop-part.seen (word_of c.in_ok-word.word) (left c.loop-part.ahead) (left c.in-Some.after)
    (ap (λ q. Some (q, left c.in-Some.after)) (sym (the_word (p.part_of c.in-Some.part) (word_of c.in_ok-word.word) c.in_ok-word.ensures)) ∙ c.in-Some.ensures))
    ∙ c.loop-part.invariant

-- a part that is no word
pub returns-in_err-word : goal.returns-in_err-word
returns-in_err-word c =
    ap (option_map (λ x. (type_spec_of x.0, left x.1))) c.from_residual.ensures
    ∙ sym (sym (told_begins (names c.args.self.now) (word_of c.args.first) (left c.args.rest)) ∙ sym c.loop-part.invariant
    ∙ words_broken (names c.args.self.now) c.loop-part.seen (p.part_of c.in-Some.part) (left c.loop-part.ahead) (left c.in-Some.after) c.in-Some.ensures (no_word (p.part_of c.in-Some.part) c.in_err-word.ensures))

pub returns-in_err-types : goal.returns-in_err-types
returns-in_err-types c =
    ap (option_map (λ x. (type_spec_of x.0, left x.1))) c.from_residual-in_err-types.ensures
    ∙ sym (sym (told_begins (names c.args.self.now) (word_of c.args.first) (left c.args.rest)) ∙ sym c.loop-part.invariant
    ∙ words_end (names c.args.self.now) c.loop-part.seen (left c.loop-part.ahead) c.in_default.ensures ∙ ap (λ y. before y (left c.loop-part.ahead)) (sym c.in_err-types.ensures.value))

pub returns : goal.returns
returns c =
    sym (sym (told_begins (names c.args.self.now) (word_of c.args.first) (left c.args.rest)) ∙ sym c.loop-part.invariant
    ∙ words_end (names c.args.self.now) c.loop-part.seen (left c.loop-part.ahead) c.in_default.ensures ∙ ap (λ y. before y (left c.loop-part.ahead)) (sym c.in_ok-types.ensures.value))
