-- One declarator at file level.
use Rattle.std.specs.Prelude.{Option, None}
use Rattle.c_type.specs.Types.{CType}
use Rattle.c_tree.specs.declared.decl.Storage.{Storage}
use Rattle.c_tree.specs.TreeDecl as ud
use Rattle.c_tree.specs.TStmt.{Declr}
use Rattle.c_tree.specs.TUnit.{Item}
use Rattle.c_rule.specs.RuleScope.{Judged, onward, provided, Env, Alias}
use Rattle.c_rule.specs.RuleTypes.{is_function}
use Rattle.c_rule.specs.RuleDecls.{past_declr}
use Rattle.c_rule.specs.RuleStmts.{is_free, missing}
use Rattle.c_rule.specs.RuleTags.{in_file}
use Rattle.c_rule.specs.Judging.{Behind, behind, judged_declr}
use Rattle.c_rule.specs.JudgingUnit.{judged_item}

-- the outcome of one declarator of an object or a function
abbrev pub judged_item_here : Env → Option Storage → CType → ud.Item → Judged (Behind Item)
judged_item_here c s base i = onward (judged_declr c (missing s i.init) base i.declr) (λ d. judged_item (is_function d.ty) s (past_declr i.declr c) d i.init)

-- the outcome of one typedef name
abbrev pub judged_alias_here : Env → CType → ud.Declr → Judged (Behind Declr)
judged_alias_here c base d =
    onward (judged_declr c None base d) (λ x. provided 1 (is_free x.name c.file) (behind x (in_file (record { name = x.name; meaning = Alias x.ty }) (past_declr d c))))
