use Rattle.std.proofs.Common.{ap, sym, ◌∙◌, refl, Some}
use Rattle.c_tree.specs.TreeExpr as t
use Rattle.c_expr.specs.Part as p
use Rattle.c_expr.specs.Parts.{names}
use Rattle.c_expr.specs.Shown.{left}
use Rattle.c_expr.specs.Tally.{word_of}
use Rattle.c_expr.proofs.Told.{type_none, type_of_words, type_alone, type_more}
use Rattle.c_expr.proofs.Turns.{refused}
use Rattle.c_expr.proofs.reader.Reader.types.Goals as goal

pub returns-in_default : goal.returns-in_default
returns-in_default c = refused c.refusal.result _ c.refusal.ensures (type_none (names c.args.self.now) (left c.args.rest) c.in_default.ensures)

pub returns-in-Some-words : goal.returns-in-Some-words
returns-in-Some-words c =
    type_of_words (names c.args.self.now) (word_of c.in-Word.word) (left c.args.rest) (left c.in-Some.after) (ap (λ x. Some (p.part_of x, left c.in-Some.after)) (sym c.in-Word.is) ∙ c.in-Some.ensures)
    ∙ sym c.in-Some-words.ensures

pub returns-in-None : goal.returns-in-None
returns-in-None c =
    refused c.refusal-in-None.result _ c.refusal-in-None.ensures (
    type_of_words (names c.args.self.now) (word_of c.in-Word.word) (left c.args.rest) (left c.in-Some.after) (ap (λ x. Some (p.part_of x, left c.in-Some.after)) (sym c.in-Word.is) ∙ c.in-Some.ensures)
    ∙ sym c.in-None.ensures)

pub returns-then-is_part : goal.returns-then-is_part
returns-then-is_part c =
    refused c.refusal-then-is_part.result _ c.refusal-then-is_part.ensures (
    type_more (names c.args.self.now) (p.tag (record { line = c.in-Tag.line; kind = c.in-Tag.kind; name = c.in-Tag.name.now })) (left c.args.rest) (left c.in-Some.after)
    (ap (λ x. Some (p.part_of x, left c.in-Some.after)) (sym c.in-Tag.is) ∙ c.in-Some.ensures) refl (sym c.if-is_part.ensures))

pub returns-in_ok-name-in-Tag : goal.returns-in_ok-name-in-Tag
returns-in_ok-name-in-Tag c =
    type_alone (names c.args.self.now) (p.tag (record { line = c.in-Tag.line; kind = c.in-Tag.kind; name = c.in-Tag.name.now })) (left c.args.rest) (left c.in-Some.after)
    (ap (λ x. Some (p.part_of x, left c.in-Some.after)) (sym c.in-Tag.is) ∙ c.in-Some.ensures) refl (sym c.if-is_part.ensures)
    ∙ ap (λ n. Some (t.tag (record { line = c.in-Tag.line; kind = c.in-Tag.kind; name = n }), left c.in-Some.after)) (sym c.in_ok-name-in-Tag.ensures.bytes)

pub returns-then-is_part-2 : goal.returns-then-is_part-2
returns-then-is_part-2 c =
    refused c.refusal-then-is_part-2.result _ c.refusal-then-is_part-2.ensures (
    type_more (names c.args.self.now) (p.named c.in-Named.name.now) (left c.args.rest) (left c.in-Some.after)
    (ap (λ x. Some (p.part_of x, left c.in-Some.after)) (sym c.in-Named.is) ∙ c.in-Some.ensures) refl (sym c.if-is_part-2.ensures))

pub returns-in_ok-of-in-Named : goal.returns-in_ok-of-in-Named
returns-in_ok-of-in-Named c =
    type_alone (names c.args.self.now) (p.named c.in-Named.name.now) (left c.args.rest) (left c.in-Some.after)
    (ap (λ x. Some (p.part_of x, left c.in-Some.after)) (sym c.in-Named.is) ∙ c.in-Some.ensures) refl (sym c.if-is_part-2.ensures)
    ∙ ap (λ n. Some (t.named n, left c.in-Some.after)) (sym c.in_ok-of-in-Named.ensures.bytes)
