-- What is below a derivation has a word with room for it.
use Rattle.std.proofs.Common.{◌≡◌, ◌<◌, ◌≤◌, arith, sym, ap, ◌∙◌, length}
use Rattle.c_type.specs.Of.{type_of}
use Rattle.c_type.specs.Types.{CType, ptr, arr, fun}
use Rattle.type_word.specs.Words.{TypeRec, word_of, HasWord, derivations}
use Rattle.type_word.specs.Parts.{with_derivation, array_of}
use Rattle.type_word.proofs.Bits.{room}
use Rattle.type_word.proofs.Written.{word_of-ptr, word_of-fun, word_of-arr}
use Rattle.type_word.proofs.writing.+word.Goals as goal

-- the record of what is below has room
below : (t : CType) (r : TypeRec) → r ≡ word_of t → length (derivations t) ≤ 5 → r.word < 16384
below t r e few = let h : (word_of t).word < 16384 = room t few in rw e h

pub derived-requires-clause-room : goal.derived-requires-clause-room
derived-requires-clause-room t c =
    let h : HasWord (ptr (type_of c.in-Ptr.target.value)) = rw c.in-Ptr.is at c.requires in
    below (type_of c.in-Ptr.target.value) c.word.result (c.word.ensures ∙ ap (λ x. word_of (type_of x)) c.deref.ensures) (omega (arith, h.derived))

pub derived-requires-in-Fun-clause-room : goal.derived-requires-in-Fun-clause-room
derived-requires-in-Fun-clause-room t c =
    let h : HasWord (fun (type_of c.in-Fun.outcome.value)) = rw c.in-Fun.is at c.requires in
    below (type_of c.in-Fun.outcome.value) c.word-in-Fun.result (c.word-in-Fun.ensures ∙ ap (λ x. word_of (type_of x)) c.deref-in-Fun.ensures) (omega (arith, h.derived))

pub array-requires : goal.array-requires
array-requires t c =
    let h : HasWord (arr c.in-Arr.n (type_of c.in-Arr.element.value)) = rw c.in-Arr.is at c.requires in
    below (type_of c.in-Arr.element.value) c.word-in-Arr.result (c.word-in-Arr.ensures ∙ ap (λ x. word_of (type_of x)) c.deref-in-Arr.ensures) (omega (arith, h.derived))

pub returns-in-Ptr : goal.returns-in-Ptr
returns-in-Ptr t c =
    rw c.in-Ptr.is (c.derived.ensures ∙ (ap (with_derivation 1) (c.word.ensures ∙ ap (λ x. word_of (type_of x)) c.deref.ensures) ∙ sym (word_of-ptr (type_of c.in-Ptr.target.value))))

pub returns-in-Fun : goal.returns-in-Fun
returns-in-Fun t c =
    rw c.in-Fun.is (c.derived-in-Fun.ensures ∙ (ap (with_derivation 2) (c.word-in-Fun.ensures ∙ ap (λ x. word_of (type_of x)) c.deref-in-Fun.ensures) ∙ sym (word_of-fun (type_of c.in-Fun.outcome.value))))

pub returns-in-Arr : goal.returns-in-Arr
returns-in-Arr t c =
    rw c.in-Arr.is (c.array.ensures ∙ (ap (array_of c.in-Arr.n) (c.word-in-Arr.ensures ∙ ap (λ x. word_of (type_of x)) c.deref-in-Arr.ensures) ∙ sym (word_of-arr c.in-Arr.n (type_of c.in-Arr.element.value))))
