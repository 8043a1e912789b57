-- *TextsAnswer*: the end of a call whose files have these texts.
use Rattle.std.specs.Prelude.{ℕ, ◌≡◌, ◌⊎◌, List, length, ⊤}
use Rattle.c_tree.specs.TUnit.{Func, Program}
use Rattle.c_join.specs.JoinChecks as join
use Rattle.c_whole.specs.Refusals.{told_as}
use Rattle.c_whole.specs.declared.JoinErr.{JoinErr}
use Rattle.c_whole.specs.declared.JoinErr.TheVariants as err
use Rattle.outside.specs.Causes.{Rose}
use Rattle.c_front.specs.Accepted.{IsAccepted}
use Rattle.c_front.specs.Causes.{IsSyntax, IsRule, IsJoin, IsJoinAs}
use Rattle.small_build.specs.SmallText.{AreSmallTexts}
use Rattle.top.specs.Outside.{Outside, IsExcused, IsSilent, IsEnd}
use Rattle.top.specs.MachineAnswers.{MachineAnswers}
use Rattle.top.specs.SourceAnswers.{SourceAnswers}
use Rattle.top.specs.declared.answer.End.{End}
use Rattle.top.specs.declared.answer.End.TheVariants.{Ran, Signalled, Session, Built, Usage, Absent, TooLarge, Refused, ReadFault, WriteFault, Budget, Memory}
use Rattle.top.specs.declared.answer.Refusal.{Refusal}
use Rattle.top.specs.declared.answer.Refusal.TheVariants.{Syntax, Rule, Join, Unbuilt}

-- how the code tells why typed units are refused
abbrev pub join_err : join.Refusal → JoinErr
join_err join.NoMain = err.NoMain
join_err (join.Twice x) = err.Twice x
join_err (join.Undefined x) = err.Undefined x
join_err (join.Clash x) = err.Clash x
join_err (join.Arguments x) = err.Arguments x

-- the texts make a program, and it is of the small form
abbrev pub Runs : List (List ℕ) → Type 0
Runs texts = ((p : Program) × IsAccepted texts p) × ((f : Func) × AreSmallTexts texts f)

-- a refusal is right
abbrev pub IsRight : List (List ℕ) → Refusal → Type 0
IsRight texts (Syntax k line) = IsSyntax texts k
IsRight texts (Rule k line rule) = IsRule texts k rule
IsRight texts (Join why) = IsJoinAs texts (told_as why)
IsRight texts Unbuilt = ((p : Program) × IsAccepted texts p) × ((f : Func) → AreSmallTexts texts f → ⊥)

-- what an end says of the texts from which it comes
abbrev pub MayEnd : List (List ℕ) → Outside → End → Type 0
MayEnd texts o (Ran s) = Runs texts
MayEnd texts o (Signalled g) = Runs texts
MayEnd texts o Session = ⊥
MayEnd texts o Built = ⊥
MayEnd texts o Usage = ⊥
MayEnd texts o (Absent name) = ⊥
MayEnd texts o (TooLarge name) = ⊥
MayEnd texts o (Refused refusal) = IsRight texts refusal
MayEnd texts o ReadFault = Rose o.reads_before o.reads_now
MayEnd texts o WriteFault = Rose o.writes_before o.writes_now
MayEnd texts o Budget = Runs texts
MayEnd texts o Memory = ⊤

-- files of these texts
pub record TextsAnswer (texts : List (List ℕ)) (most : ℕ) (o : Outside) (end : End) : Type 0 where
  -- an end comes only where it may
  pub only : MayEnd texts o end
  -- the first text that no unit reads is named
  pub syntax : (k : ℕ) → IsSyntax texts k → (((line : ℕ) × (end ≡ Refused (Syntax k line))) ⊎ IsExcused o end) × IsSilent o
  -- the first file in which a rule fails is named, with a rule that fails in it
  pub rule : (k rule : ℕ) → IsRule texts k rule → (((line named : ℕ) × (end ≡ Refused (Rule k line named))) ⊎ IsExcused o end) × IsSilent o
  -- the first check of the join that fails is named, at the first name
  pub join_fails : (why : join.Refusal) → IsJoin texts why → IsEnd o (Refused (Join (join_err why))) end
  -- a program of another form isn't built yet
  pub unbuilt : (p : Program) → IsAccepted texts p → ((f : Func) → AreSmallTexts texts f → ⊥) → IsEnd o (Refused Unbuilt) end
  -- a program of the small form runs
  pub machine : (p : Program) → IsAccepted texts p → (f : Func) → AreSmallTexts texts f → MachineAnswers f most o end
  pub source : (p : Program) → IsAccepted texts p → (f : Func) → (s : AreSmallTexts texts f) → SourceAnswers p (length s.text) most o end
