-- Each part of a body is judged where those before it stand.
use Rattle.std.proofs.Common.{rules, ◌≡◌, ℕ, List, [], Option, map, true, refl, sym, ap, ◌∙◌, subst}
use Rattle.c_type.specs.Names.{Name}
use Rattle.c_type.specs.declared.TagKind.TheVariants.{Struct}
use Rattle.c_type.specs.Of.{members_of, tag_of}
use Rattle.c_type.specs.Types.{Member, struct}
use Rattle.c_tree.specs.declared.decl.Mem.{Mem}
use Rattle.c_tree.specs.TreeDecl as td
use Rattle.c_tree.specs.TreeOf as u
use Rattle.c_tree.specs.TUnit as tu
use Rattle.c_rule.specs.RuleScope.{Judged, Env}
use Rattle.c_rule.specs.RuleTags.{names_differ, unplaced}
use Rattle.c_scope.specs.declared.error.TypeErr.{TypeErr}
use Rattle.c_scope.specs.EnvOf.{env_of}
use Rattle.c_rule.specs.Judging.{Behind}
use Rattle.c_rule.specs.JudgingUnit as j
use Rattle.c_scope.specs.Says.{SaysBehind}
use Rattle.c_local.proofs.Lists.{err_judged}
use Rattle.c_tag.specs.Words.{typed_of}
use Rattle.c_tag.specs.TagParts.{MemPart, mem_part, put, body_from, judged_mem}
use Rattle.c_tag.proofs.InOrder.{first, next, refused, last}
use Rattle.c_tag.proofs.TagRows.{mem_row}
use Rattle.c_tag.proofs.TagBodies.{onto_body, struct_is, source_struct, struct_row}
use Rattle.c_tag.proofs.tags.+tags.Goals as goal

-- the outcome of the parts of a list, and of one part
abbrev all : Env → List Mem → Judged (Behind j.Body)
all e xs = j.judged_mems e (u.mems_from xs)

abbrev one : Env → Mem → Judged (Behind MemPart)
one e x = judged_mem e (u.mem_of x)

pub mems-loop-part-init : goal.mems-loop-part-init
mems-loop-part-init t c = first mem_part put one all mem_row (env_of c.args.c.now) c.args.parts.now c.new-typed.result.items c.new-typed.ensures.items

pub mems-loop-part-preserved : goal.mems-loop-part-preserved
mems-loop-part-preserved t c =
    next mem_part put one all mem_row (env_of c.args.c.now) (env_of c.loop-part.c) (env_of c.mem.new.c) c.args.parts.now c.loop-part.part-index c.part-item.result
    c.loop-part.typed.items c.push.new.self.items c.in_ok-one.one c.loop-part.invariant c.loop-part-test.true c.part-item.is c.in_ok-one.ensures.judged c.in_ok-push.ensures.items

pub mems-returns-in_err-one : goal.mems-returns-in_err-one
mems-returns-in_err-one t c =
    let w : TypeErr = c.in_err-one.field-0.0 in
    record {
      judged =
          err_judged _ _ c.from_residual.result w c.from_residual.ensures.1
          (refused mem_part put one all mem_row (env_of c.args.c.now) (env_of c.loop-part.c) c.args.parts.now c.loop-part.part-index c.part-item.result
          c.loop-part.typed.items w c.loop-part.invariant c.loop-part-test.true c.part-item.is c.in_err-one.ensures.judged);
    }

pub mems-returns : goal.mems-returns
mems-returns t c =
    record {
      judged =
          last mem_part put one all mem_row (env_of c.args.c.now) (env_of c.loop-part.c) c.args.parts.now c.loop-part.part-index c.loop-part.typed.items
          (record { mems = tu.no_mems; members = [] }) (body_from c.loop-part.typed.items) c.loop-part.invariant c.loop-part-test.false refl (onto_body c.loop-part.typed.items);
    }

pub struct_def-returns : goal.struct_def-returns
struct_def-returns t c =
    let e : Env = env_of c.args.c.now in
    let b : j.Body = body_from c.in_ok-typed.typed.items in
    let n : ℕ = c.in_ok-number.number in
    let held : List Member = members_of c.in_ok-members.members.items in
    let same : held ≡ b.members = c.in_ok-members.ensures ∙ ap (λ l. (body_from l).members) c.deref.ensures.value in
    let told : names_differ (map (λ m. m.name) (members_of c.deref-2.result.now)) ≡ true = search rules in
    let differ : names_differ (map (λ m. m.name) b.members) ≡ true =
    ap (λ l. names_differ (map (λ m. m.name) l)) (sym same ∙ ap members_of (sym c.deref-2.ensures.value)) ∙ told in
    let laid : tag_of c.in_ok-tag.tag ≡ unplaced c.args.name.now Struct b.members = c.in_ok-tag.ensures ∙ ap (unplaced c.args.name.now Struct) same in
    let is : typed_of c.in_ok-closed.field-0 ≡ record { spec = tu.struct_body n b.mems; base = struct n } =
    c.in_ok-closed.ensures.value ∙ ap {B = j.Typed} (λ s. record { spec = s; base = struct n }) (struct_is n c.in_ok-typed.typed) in
    record {
      judged =
          struct_row e (env_of c.mems.new.c) (env_of c.closed.new.c) c.args.line c.args.name.now (u.mems_from c.args.parts.now) b n (tag_of c.in_ok-tag.tag) (typed_of c.in_ok-closed.field-0)
          c.in_ok-typed.ensures.judged differ c.in_ok-number.ensures laid c.in_ok-closed.ensures.closed is;
    }

pub tag_def-returns-in-Struct : goal.tag_def-returns-in-Struct
tag_def-returns-in-Struct t c =
    let e : Env = env_of c.args.c.now in
    let l : ℕ = c.in-Struct.line in
    let x : Option Name = c.in-Struct.name in
    let same : td.struct l x (u.mems_from c.deref.result.now) ≡ u.def_of c.args.def.now =
    ap (λ ms. td.struct l x (u.mems_from ms)) c.deref.ensures.value ∙ sym (source_struct c.args.def.now l x c.in-Struct.parts c.in-Struct.is) in
    record { judged = subst (λ y. SaysBehind typed_of (env_of c.struct_def.new.c) (j.judged_def e y) c.struct_def.result) same c.struct_def.ensures.judged }
