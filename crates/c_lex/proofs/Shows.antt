-- From what the code answers at the front of a text to what stands there.
use Rattle.std.proofs.Common.{◌≡◌, ℕ, ◌<◌, List, [], ◌∷◌, length, Option, subst, arith}
use Rattle.c_lex.specs.Tokens.{Tok, Token}
use Rattle.c_lex.specs.Falls.{IsBadByte, IsTooLarge, IsOpenComment, IsOpenText}
use Rattle.c_lex.specs.declared.pieces.Fault.{Fault}
use Rattle.c_lex.specs.declared.pieces.Fault.TheVariants.{Byte, Large, Comment, Quoted, Memory}
use Rattle.c_lex.specs.Reading.{found, front}
use Rattle.c_lex.specs.Shown.{fault_front}
use Rattle.c_lex.specs.Refusals.{Refuses, refusal, HasRead}
use Rattle.c_lex.proofs.Fronts.{PieceAt, Holds, front_holds}
use Rattle.c_lex.proofs.Growing.{bad_there}

holds : (rest : List ℕ) → 0 < length rest → Holds rest (front rest)
holds [] lt = absurd (omega arith)
holds (b ∷ bs) lt = front_holds b bs

pub piece_at : (rest after : List ℕ) (k : Option Tok) → 0 < length rest → front rest ≡ found k after → PieceAt rest k after
piece_at rest after k lt e = subst (λ f. Holds rest f) e (holds rest lt)

pub refused_at : (fault : Fault) (bytes rest : List ℕ) (ts : List Token) (line : ℕ) → 0 < length rest → HasRead bytes ts line rest → fault_front fault (front rest) → Refuses (refusal fault line) bytes
refused_at Byte bytes rest ts line lt h e = bad_there IsBadByte bytes rest ts line h (subst (λ f. Holds rest f) e (holds rest lt))
refused_at Large bytes rest ts line lt h e = bad_there IsTooLarge bytes rest ts line h (subst (λ f. Holds rest f) e (holds rest lt))
refused_at Comment bytes rest ts line lt h e = bad_there IsOpenComment bytes rest ts line h (subst (λ f. Holds rest f) e (holds rest lt))
refused_at Quoted bytes rest ts line lt h e = bad_there IsOpenText bytes rest ts line h (subst (λ f. Holds rest f) e (holds rest lt))
refused_at Memory bytes rest ts line lt h e = tt
