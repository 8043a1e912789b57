-- The end of a program, as the code comes to it.
use Rattle.std.specs.Prelude.{ℕ, ◌≡◌, List, [], Option}
use Rattle.mach_mem.specs.Space.{Space, IsInitial}
use Rattle.c_tree.specs.TUnit.{Program}
use Rattle.mach_exec.specs.Started.{started}
use Rattle.outside.specs.Causes.{Rose}
use Rattle.subject.specs.declared.Halt.{Halt}
use Rattle.subject.specs.Process.{StopsWith, Breaks}
use Rattle.small_build.specs.Compiled.{IsCode}
use Rattle.c_front.specs.Accepted.{IsAccepted}
use Rattle.top.specs.TextsAnswer.{IsRight}
use Rattle.top.specs.MachineAnswers.{end_of}
use Rattle.small_build.specs.declared.BuildErr.{BuildErr}
use Rattle.small_build.specs.declared.BuildErr.TheVariants as build
use Rattle.c_front.specs.declared.FrontErr.{FrontErr}
use Rattle.c_front.specs.declared.FrontErr.TheVariants as front
use Rattle.top.specs.declared.answer.End.{End}
use Rattle.top.specs.declared.answer.End.TheVariants.{Refused, WriteFault, Memory}
use Rattle.top.specs.declared.answer.Refusal.{Refusal}
use Rattle.top.specs.declared.answer.Refusal.TheVariants.{Syntax, Rule, Join, Unbuilt}

-- the end where the front end gives no program
abbrev pub end_unaccepted : FrontErr → End
end_unaccepted (front.Syntax k line) = Refused (Syntax k line)
end_unaccepted (front.Rule k line rule) = Refused (Rule k line rule)
end_unaccepted (front.Join why) = Refused (Join why)
end_unaccepted front.Memory = Memory

-- the end where texts are not built
abbrev pub end_unbuilt : BuildErr → End
end_unbuilt (build.Front e) = end_unaccepted e
end_unbuilt build.Unbuilt = Refused Unbuilt
end_unbuilt build.Memory = Memory

-- the process over these bytes has stopped, or the sink failed, or memory was wanting
pub data EndsCode (code : List ℕ) (most : ℕ) (old new : Option (List ℕ)) (before now : ℕ) (end : End) : Type 0 where
  stopped : (mem : Space) (h : Halt) → IsInitial mem code [] 0 → StopsWith (started mem []) most old new h → end ≡ end_of h → EndsCode code most old new before now end
  broken : (mem : Space) → IsInitial mem code [] 0 → Breaks (started mem []) most old new → end ≡ WriteFault → Rose before now → EndsCode code most old new before now end
  wanting : end ≡ Memory → new ≡ old → EndsCode code most old new before now end

-- the texts are refused, or memory was wanting, or the code of the program that they make has that end
pub data EndsTexts (texts : List (List ℕ)) (most : ℕ) (old new : Option (List ℕ)) (before now : ℕ) (end : End) : Type 0 where
  refused : (why : Refusal) → IsRight texts why → end ≡ Refused why → new ≡ old → EndsTexts texts most old new before now end
  unread : end ≡ Memory → new ≡ old → EndsTexts texts most old new before now end
  ran : (p : Program) → IsAccepted texts p → (code : List ℕ) → IsCode texts code → EndsCode code most old new before now end → EndsTexts texts most old new before now end
