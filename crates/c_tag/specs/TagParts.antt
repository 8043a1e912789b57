-- The parts of a tag's body one by one.
use Rattle.std.specs.Prelude.{ℕ, List, [], ◌∷◌, ◌++◌, map, Box, Option}
use Rattle.std.specs.Global.{Global}
use Rattle.c_type.specs.Types.{CType}
use Rattle.c_tree.specs.declared.typed_unit.TMembers.{TMembers}
use Rattle.c_tree.specs.declared.typed_unit.TEnumerator.{TEnumerator}
use Rattle.c_tree.specs.TreeDecl as ud
use Rattle.c_tree.specs.TStmt.{Declr}
use Rattle.c_tree.specs.TUnit as t
use Rattle.c_tree.specs.TUnit.{Spec, Enumerator}
use Rattle.c_tree.specs.TypedOf.{spec_of, declr_of, enumerator_of}
use Rattle.c_rule.specs.RuleScope.{Judged, onward, provided, Env, Constant, past_option}
use Rattle.c_rule.specs.RuleDecls.{past_declr}
use Rattle.c_rule.specs.RuleStmts.{is_free}
use Rattle.c_rule.specs.RuleTags.{in_file, member_of}
use Rattle.c_rule.specs.Judging.{Behind, behind}
use Rattle.c_rule.specs.JudgingUnit.{Body, judged_types, judged_member, judged_members, judged_enumerator}

-- the declarators of members, with the words before them
pub record MemPart : Type 0 where
  pub spec : Spec
  pub declrs : List Declr

-- the part that a value of the code stands for
abbrev pub mem_part : TMembers → MemPart
mem_part m = record { spec = spec_of m.spec; declrs = map declr_of m.declrs.items }

-- a body that begins with this part, with the members that it gives
abbrev pub put : MemPart → Body → Body
put p b = record { mems = t.more_mems p.spec p.declrs b.mems; members = map member_of p.declrs ++ b.members }

-- the body of these parts
abbrev pub body_from : List TMembers → Body
body_from [] = record { mems = t.no_mems; members = [] }
body_from (m ∷ ms) = put (mem_part m) (body_from ms)

-- the outcome of one part
abbrev pub judged_mem : Env → ud.Mem → Judged (Behind MemPart)
judged_mem c (ud.mem l y ds) =
    onward (judged_types c y) (λ s. onward (judged_members s.env s.tree.base ds) (λ xs. behind (record { spec = s.tree.spec; declrs = xs.tree }) xs.env))

-- the outcome of one member
abbrev pub judged_member_here : Env → CType → ud.Declr → Judged (Behind Declr)
judged_member_here c base d = onward (judged_member c base d) (λ y. behind y (past_declr d c))

-- the outcome of one enumerator, which is declared in the file
abbrev pub judged_enumerator_here : Env → Option ℕ → ud.En → Judged (Behind Enumerator)
judged_enumerator_here c before x =
    onward (judged_enumerator c before x.name x.value) (λ y. provided 1 (is_free x.name c.file)
    (behind y (in_file (record { name = x.name; meaning = Constant y.value }) (past_option x.value c))))

abbrev pub boxed_enumerator : Box TEnumerator Global → Enumerator
boxed_enumerator b = enumerator_of b.value
