-- The 24 typing rules in order, each under its own name. RuleUnit says which typed unit belongs to a unit that meets them.

-- rule 1: a name is declared once in its scope, and at file level again with the same type and choice of `static`
pub use Rattle.c_rule.specs.RuleStmts.{Declares}
pub use Rattle.c_rule.specs.RuleUnit.{DeclaresInFile}
pub use Rattle.c_rule.specs.RuleNames.{defined_in}
-- rule 2: a name in an expression is declared before it; a called name that is not is an external function returning int
pub use Rattle.c_rule.specs.RuleExprs.{as_expr, called_name}
-- rule 3: a tag is defined once, with its kind; a size is needed only behind the definition
pub use Rattle.c_rule.specs.RuleScope.{tag_from, is_sized}
pub use Rattle.c_rule.specs.RuleTypes.{elements_are_sized}
pub use Rattle.c_rule.specs.RuleValues.{target_is_sized}
-- rule 4: void is a function's result or the type of a cast
pub use Rattle.c_rule.specs.RuleTypes.{void_is_a_result, cast_type}
-- rule 5: a dimension is a constant of at least 1, missing only where it may be; no element is a function
pub use Rattle.c_rule.specs.RuleDecls.{dimension_of, IsDerived}
pub use Rattle.c_rule.specs.RuleStmts.{missing}
pub use Rattle.c_rule.specs.RuleTypes.{elements_are_objects}
-- rule 6: what a function returns
pub use Rattle.c_rule.specs.RuleTypes.{functions_return}
-- rule 7: members have different names and are no functions
pub use Rattle.c_rule.specs.RuleTags.{AreMembers, names_differ}
-- rule 8: parameters are in the list; those that are not declared are int
pub use Rattle.c_rule.specs.RuleUnit.{AreParameters, parameter_type, as_parameter}
-- rule 9: constants
pub use Rattle.c_rule.specs.RuleDecls.{constant_of}
-- rule 10: an initialiser of static life
pub use Rattle.c_rule.specs.RuleDecls.{IsInit, first_value, is_known}
-- rule 11: an automatic initialiser
pub use Rattle.c_rule.specs.RuleDecls.{IsAutoInit}
-- rule 12: operators of integers
pub use Rattle.c_rule.specs.RuleExprs.{arithmetic, shift, negation}
-- rule 13: `+` and `-`
pub use Rattle.c_rule.specs.RuleExprs.{sum, difference}
-- rule 14: comparisons
pub use Rattle.c_rule.specs.RuleExprs.{order, equality}
-- rule 15: tests
pub use Rattle.c_rule.specs.RuleExprs.{two_tests, denial}
pub use Rattle.c_rule.specs.RuleValues.{scalar}
-- rule 16: the branches of `? :`
pub use Rattle.c_rule.specs.RuleExprs.{choice}
-- rule 17: `*` and `&`
pub use Rattle.c_rule.specs.RuleExprs.{star, address}
-- rule 18: `[ ]`
pub use Rattle.c_rule.specs.RuleExprs.{subscript}
-- rule 19: `.` and `->`
pub use Rattle.c_rule.specs.RuleExprs.{dot, arrow}
-- rule 20: calls
pub use Rattle.c_rule.specs.RuleExprs.{called}
pub use Rattle.c_rule.specs.RuleTree.{AreArgs}
-- rule 21: assignments, `++` and `--`; where a structure may stand
pub use Rattle.c_rule.specs.RuleExprs.{assign, update, update_shift, update_sum, step}
pub use Rattle.c_rule.specs.RuleValues.{used, taken}
-- rule 22: casts
pub use Rattle.c_rule.specs.RuleExprs.{cast}
-- rule 23: the value of `return`
pub use Rattle.c_rule.specs.RuleStmts.{returned}
-- rule 24: `break`, `continue` and `switch`
pub use Rattle.c_rule.specs.RuleStmts.{IsStmt, labels_differ}
