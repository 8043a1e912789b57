-- One declarator and one declaration of a block.
use Rattle.std.specs.Prelude.{Option, Some, None, Bool, true, false}
use Rattle.c_type.specs.Types.{CType}
use Rattle.c_type.specs.Names.{pick}
use Rattle.c_tree.specs.declared.decl.Storage.{Storage}
use Rattle.c_tree.specs.TreeDecl as ud
use Rattle.c_tree.specs.TExpr as e
use Rattle.c_tree.specs.TStmt.{Local, LocalDecl}
use Rattle.c_rule.specs.RuleScope.{Judged, onward, Env, Meaning, Thing}
use Rattle.c_rule.specs.RuleTypes.{is_function, spec_or_int}
use Rattle.c_rule.specs.RuleDecls.{past_declr}
use Rattle.c_rule.specs.RuleStmts.{missing, declr_line}
use Rattle.c_rule.specs.Judging.{Behind, behind, judged_declr, judged_local, judged_locals}

abbrev pub judged_item_here : Env → Option Storage → CType → ud.Item → Judged (Behind Local)
judged_item_here c s base i =
    onward (judged_declr c (missing s i.init) base i.declr) (λ d. judged_local (is_function d.ty) s (past_declr i.declr c) (declr_line i.declr) d i.init)

abbrev pub judged_decl_here : Env → ud.LocalDecl → Judged (Behind LocalDecl)
judged_decl_here c d = onward (spec_or_int c d.specs.types) (λ base. onward (judged_locals c d.specs.storage base d.items) (λ ls. behind (record { items = ls.tree }) ls.env))

abbrev pub is_external : e.Ref → Bool
is_external (e.Ext x) = true
is_external _ = false

-- the type that a name has which means an external object
abbrev pub external_type : Meaning → Option CType
external_type (Thing r t) = pick (is_external r) (Some t) None
external_type _ = None
