-- Each part is judged where those before it stand.
use Rattle.std.proofs.Common.{List, [], map, refl}
use Rattle.c_type.specs.Names.{Name}
use Rattle.c_tree.specs.declared.decl.ParDecl.{ParDecl}
use Rattle.c_tree.specs.TreeOf as u
use Rattle.c_tree.specs.TUnit as t
use Rattle.c_tree.specs.TypedOf.{par_of}
use Rattle.c_check.specs.Parameters.{judged_par_decl_here}
use Rattle.c_check.specs.ListOf.{names_of}
use Rattle.c_rule.specs.RuleScope.{Judged, Env}
use Rattle.c_scope.specs.declared.error.TypeErr.{TypeErr}
use Rattle.c_scope.specs.EnvOf.{env_of}
use Rattle.c_rule.specs.Judging.{Behind}
use Rattle.c_rule.specs.JudgingUnit as j
use Rattle.c_local.proofs.Lists.{in_front, onto_list, err_judged}
use Rattle.c_tag.proofs.InOrder.{first, next, refused, last}
use Rattle.c_check.proofs.Rows.{par_decl_row}
use Rattle.c_check.proofs.parameters.par_decls.Goals as goal

-- the outcome of the parts of a list, and of one part
abbrev all : List Name → Env → List ParDecl → Judged (Behind (List t.ParDecl))
all ns e xs = j.judged_par_decls e ns (map u.par_of xs)

abbrev one : List Name → Env → ParDecl → Judged (Behind t.ParDecl)
one ns e x = judged_par_decl_here e ns (u.par_of x)

pub loop-part-init : goal.loop-part-init
loop-part-init c =
    let ns : List Name = names_of c.args.list.now in
    first par_of in_front (one ns) (all ns) (par_decl_row ns) (env_of c.args.c.now) c.args.parts.now c.new-typed.result.items c.new-typed.ensures.items

pub loop-part-preserved : goal.loop-part-preserved
loop-part-preserved c =
    let ns : List Name = names_of c.args.list.now in
    next par_of in_front (one ns) (all ns) (par_decl_row ns) (env_of c.args.c.now) (env_of c.loop-part.c) (env_of c.par_decl.new.c) c.args.parts.now c.loop-part.part-index c.part-item.result
    c.loop-part.typed.items c.push.new.self.items c.in_ok-one.one c.loop-part.invariant c.loop-part-test.true c.part-item.is c.in_ok-one.ensures.judged
    c.in_ok-push.ensures.items

pub returns-in_err-one : goal.returns-in_err-one
returns-in_err-one c =
    let ns : List Name = names_of c.args.list.now in
    let w : TypeErr = c.in_err-one.field-0.0 in
    record {
      judged =
          err_judged _ _ c.from_residual.result w c.from_residual.ensures.1
          (refused par_of in_front (one ns) (all ns) (par_decl_row ns) (env_of c.args.c.now) (env_of c.loop-part.c) c.args.parts.now c.loop-part.part-index c.part-item.result
          c.loop-part.typed.items w c.loop-part.invariant c.loop-part-test.true c.part-item.is c.in_err-one.ensures.judged);
    }

pub returns : goal.returns
returns c =
    let ns : List Name = names_of c.args.list.now in
    record {
      judged =
          last par_of in_front (one ns) (all ns) (par_decl_row ns) (env_of c.args.c.now) (env_of c.loop-part.c) c.args.parts.now c.loop-part.part-index c.loop-part.typed.items [] (map par_of c.loop-part.typed.items)
          c.loop-part.invariant c.loop-part-test.false refl (onto_list par_of c.loop-part.typed.items);
    }
