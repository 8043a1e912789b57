-- What is below a derivation has a smaller word.
use Rattle.type_word.proofs.reading.+typed.Given as goal

abbrev pub decreases-typed : goal.decreases-typed
decreases-typed l = l.r.word
