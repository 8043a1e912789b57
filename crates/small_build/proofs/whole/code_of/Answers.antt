use Rattle.c_tree.specs.TypedOf.{program_of}
use Rattle.small_build.proofs.whole.code_of.Goals as goal

pub returns-in-Ok : goal.returns-in-Ok
returns-in-Ok c = record { program = program_of c.args.program.now.program; accepted = c.requires.accepted; code_is = c.in-Ok.ensures }

pub returns-in-Err-Unbuilt : goal.returns-in-Err-Unbuilt
returns-in-Err-Unbuilt c =
    let none = rw (c.in-Err-Unbuilt.field-0-is) at c.in-Err-Unbuilt.ensures in
    ((program_of c.args.program.now.program, c.requires.accepted), none)
