-- Each initialiser is judged where those before it stand.
use Rattle.std.proofs.Common.{◌≡◌, ◌+◌, ◌<◌, ◌≤◌, ℕ, List, length, drop, map, replicate, sym, ap, ◌∙◌, subst, arith}
use Rattle.std.proofs.lemmas.List.{length-map, length-replicate, get_or-replicate}
use Rattle.c_type.specs.declared.CType.{CType as RustType}
use Rattle.c_type.specs.Names.{at_or}
use Rattle.c_type.specs.Of.{type_of}
use Rattle.c_type.specs.Sizes.{no_tag}
use Rattle.c_type.specs.Types.{CType}
use Rattle.c_tree.specs.declared.decl.Init.{Init}
use Rattle.c_tree.specs.declared.typed_stmt.TInit.{TInit}
use Rattle.c_tree.specs.TreeOf as u
use Rattle.c_tree.specs.TStmt as st
use Rattle.c_tree.specs.TypedOf.{init_of}
use Rattle.c_rule.specs.RuleScope.{Judged, Env}
use Rattle.c_scope.specs.declared.error.TypeErr.{TypeErr}
use Rattle.c_scope.specs.EnvOf.{env_of}
use Rattle.c_rule.specs.Judging.{Behind, behind, judged_init, judged_inits}
use Rattle.c_scope.specs.Says.{Refused}
use Rattle.c_local.specs.Initialisers.{grouped}
use Rattle.c_local.proofs.Inits.{part_row, type_at, parts_past, parts_end, onto_group, array_row, struct_row, group_says, group_refused}
use Rattle.c_local.proofs.Lists.{none_before, next_part, part_refused, all_parts, err_judged}
use Rattle.c_local.proofs.initialisers.+inits.Goals as goal

abbrev view : TInit → st.Inits → st.Inits
view i r = st.more_inits (init_of i) r

pub elements-loop-i-init : goal.elements-loop-i-init
elements-loop-i-init t c =
    none_before view c.new-parts.result.items (judged_inits (env_of c.args.c.now) (replicate c.args.count (type_of c.args.of.now)) (u.inits_from c.args.inits.now)) c.new-parts.ensures.items

pub elements-loop-i-preserved : goal.elements-loop-i-preserved
elements-loop-i-preserved t c =
    let is : List Init = c.args.inits.now in
    let i : ℕ = c.loop-i.i in
    let x : Init = c.index-inits-i.result in
    let p : CType = type_of c.args.of.now in
    let n : ℕ = c.args.count in
    let e : Env = env_of c.loop-i.c in
    let lp : i < n = omega arith in
    let li : i < length is = omega arith in
    next_part init_of st.more_inits c.loop-i.parts.items c.push.new.self.items c.in_ok-typed.typed (judged_inits (env_of c.args.c.now) (replicate n p) (u.inits_from is))
    (judged_inits e (drop i (replicate n p)) (u.inits_from (drop i is))) (judged_init e p (u.init_of x)) (λ d. judged_inits d (drop (i + 1) (replicate n p)) (u.inits_from (drop (i + 1) is)))
    (env_of c.init.new.c) c.loop-i.invariant (part_row e (replicate n p) is i p x (omega (arith, length-replicate n p)) (get_or-replicate n i p p lp) li c.index-inits-i.is) c.in_ok-typed.ensures.judged
    c.in_ok-push.ensures.items

pub elements-returns-in_err-typed : goal.elements-returns-in_err-typed
elements-returns-in_err-typed t c =
    let is : List Init = c.args.inits.now in
    let i : ℕ = c.loop-i.i in
    let x : Init = c.index-inits-i.result in
    let p : CType = type_of c.args.of.now in
    let n : ℕ = c.args.count in
    let e : Env = env_of c.loop-i.c in
    let lp : i < n = omega arith in
    let li : i < length is = omega arith in
    let whole : Judged (Behind st.Inits) = judged_inits (env_of c.args.c.now) (replicate n p) (u.inits_from is) in
    record {
      judged =
          err_judged _ whole c.from_residual.result c.in_err-typed.field-0.0 c.from_residual.ensures.1
          (part_refused view st.more_inits c.loop-i.parts.items whole (judged_inits e (drop i (replicate n p)) (u.inits_from (drop i is))) (judged_init e p (u.init_of x))
          (λ d. judged_inits d (drop (i + 1) (replicate n p)) (u.inits_from (drop (i + 1) is))) c.in_err-typed.field-0.0 c.loop-i.invariant
          (part_row e (replicate n p) is i p x (omega (arith, length-replicate n p)) (get_or-replicate n i p p lp) li c.index-inits-i.is) c.in_err-typed.ensures.judged);
    }

pub elements-returns : goal.elements-returns
elements-returns t c =
    let is : List Init = c.args.inits.now in
    let i : ℕ = c.loop-i.i in
    let ps : List CType = replicate c.args.count (type_of c.args.of.now) in
    let e : Env = env_of c.loop-i.c in
    let le : length is ≤ i = omega arith in
    record {
      judged =
          all_parts view c.loop-i.parts.items (judged_inits (env_of c.args.c.now) ps (u.inits_from is)) (judged_inits e (drop i ps) (u.inits_from (drop i is))) st.no_inits
          (grouped c.loop-i.parts.items) e c.loop-i.invariant (parts_end e (drop i ps) is i le) (onto_group c.loop-i.parts.items);
    }

pub members-loop-i-init : goal.members-loop-i-init
members-loop-i-init t c =
    none_before view c.new-parts.result.items (judged_inits (env_of c.args.c.now) (map type_of c.args.types.now) (u.inits_from c.args.inits.now)) c.new-parts.ensures.items

pub members-loop-i-preserved : goal.members-loop-i-preserved
members-loop-i-preserved t c =
    let is : List Init = c.args.inits.now in
    let ts : List RustType = c.args.types.now in
    let i : ℕ = c.loop-i.i in
    let x : Init = c.index-inits-i.result in
    let y : RustType = c.index-types-i.result in
    let ps : List CType = map type_of ts in
    let e : Env = env_of c.loop-i.c in
    let lt : i < length ts = omega arith in
    let li : i < length is = omega arith in
    next_part init_of st.more_inits c.loop-i.parts.items c.push.new.self.items c.in_ok-typed.typed (judged_inits (env_of c.args.c.now) ps (u.inits_from is))
    (judged_inits e (drop i ps) (u.inits_from (drop i is))) (judged_init e (type_of y) (u.init_of x)) (λ d. judged_inits d (drop (i + 1) ps) (u.inits_from (drop (i + 1) is)))
    (env_of c.init.new.c) c.loop-i.invariant (part_row e ps is i (type_of y) x (omega (arith, length-map ts type_of)) (type_at ts i y lt c.index-types-i.is) li c.index-inits-i.is)
    c.in_ok-typed.ensures.judged c.in_ok-push.ensures.items

pub members-returns-in_err-typed : goal.members-returns-in_err-typed
members-returns-in_err-typed t c =
    let is : List Init = c.args.inits.now in
    let ts : List RustType = c.args.types.now in
    let i : ℕ = c.loop-i.i in
    let x : Init = c.index-inits-i.result in
    let y : RustType = c.index-types-i.result in
    let ps : List CType = map type_of ts in
    let e : Env = env_of c.loop-i.c in
    let lt : i < length ts = omega arith in
    let li : i < length is = omega arith in
    let whole : Judged (Behind st.Inits) = judged_inits (env_of c.args.c.now) ps (u.inits_from is) in
    record {
      judged =
          err_judged _ whole c.from_residual.result c.in_err-typed.field-0.0 c.from_residual.ensures.1
          (part_refused view st.more_inits c.loop-i.parts.items whole (judged_inits e (drop i ps) (u.inits_from (drop i is))) (judged_init e (type_of y) (u.init_of x))
          (λ d. judged_inits d (drop (i + 1) ps) (u.inits_from (drop (i + 1) is))) c.in_err-typed.field-0.0 c.loop-i.invariant
          (part_row e ps is i (type_of y) x (omega (arith, length-map ts type_of)) (type_at ts i y lt c.index-types-i.is) li c.index-inits-i.is) c.in_err-typed.ensures.judged);
    }

pub members-returns : goal.members-returns
members-returns t c =
    let is : List Init = c.args.inits.now in
    let i : ℕ = c.loop-i.i in
    let ps : List CType = map type_of c.args.types.now in
    let e : Env = env_of c.loop-i.c in
    let le : length is ≤ i = omega arith in
    record {
      judged =
          all_parts view c.loop-i.parts.items (judged_inits (env_of c.args.c.now) ps (u.inits_from is)) (judged_inits e (drop i ps) (u.inits_from (drop i is))) st.no_inits
          (grouped c.loop-i.parts.items) e c.loop-i.invariant (parts_end e (drop i ps) is i le) (onto_group c.loop-i.parts.items);
    }

pub elements-returns-then-i-count : goal.elements-returns-then-i-count
elements-returns-then-i-count t c =
    let is : List Init = c.args.inits.now in
    let i : ℕ = c.loop-i.i in
    let n : ℕ = c.args.count in
    let ps : List CType = replicate n (type_of c.args.of.now) in
    let li : i < length is = omega arith in
    let le : length ps ≤ i = omega (arith, length-replicate n (type_of c.args.of.now)) in
    record { judged = parts_past view c.loop-i.parts.items (judged_inits (env_of c.args.c.now) ps (u.inits_from is)) (env_of c.loop-i.c) ps is i li le c.loop-i.invariant }

pub members-returns-then-i-types : goal.members-returns-then-i-types
members-returns-then-i-types t c =
    let is : List Init = c.args.inits.now in
    let i : ℕ = c.loop-i.i in
    let ts : List RustType = c.args.types.now in
    let li : i < length is = omega arith in
    let le : length (map type_of ts) ≤ i = omega (arith, length-map ts type_of) in
    record {
      judged = parts_past view c.loop-i.parts.items (judged_inits (env_of c.args.c.now) (map type_of ts) (u.inits_from is)) (env_of c.loop-i.c) (map type_of ts) is i li le c.loop-i.invariant;
    }

pub init-returns-in_ok-parts-in-Arr : goal.init-returns-in_ok-parts-in-Arr
init-returns-in_ok-parts-in-Arr t c =
    let e : Env = env_of c.args.c.now in
    let is = c.in-Group.inits in
    let ps : List CType = replicate c.in-Arr.count (type_of c.in-Arr.of.value) in
    let left : judged_inits e ps (u.inits_from is.items) ≡ behind (grouped c.in_ok-parts-in-Arr.parts.items) (env_of c.elements.new.c) =
    ap (λ l. judged_inits e ps (u.inits_from l)) (sym c.deref.ensures.value) ∙
    ap (λ y. judged_inits e (replicate c.in-Arr.count (type_of y)) (u.inits_from c.deref.result.now)) (sym c.deref-in-Arr.ensures) ∙ c.in_ok-parts-in-Arr.ensures.judged in
    record {
      judged =
          group_says _ _ c.in_ok-parts-in-Arr.parts (env_of c.elements.new.c)
          (array_row e c.args.ty.now c.in-Arr.count c.in-Arr.of c.args.init.now c.in-Group.line is c.in-Arr.is c.in-Group.is) left;
    }

pub init-returns-in_err-parts-in-Arr : goal.init-returns-in_err-parts-in-Arr
init-returns-in_err-parts-in-Arr t c =
    let e : Env = env_of c.args.c.now in
    let is = c.in-Group.inits in
    let ps : List CType = replicate c.in-Arr.count (type_of c.in-Arr.of.value) in
    let w : TypeErr = c.in_err-parts-in-Arr.field-0.0 in
    let first : Refused (judged_inits e ps (u.inits_from c.deref.result.now)) w =
    subst (λ y. Refused (judged_inits e (replicate c.in-Arr.count (type_of y)) (u.inits_from c.deref.result.now)) w) c.deref-in-Arr.ensures c.in_err-parts-in-Arr.ensures.judged in
    let left : Refused (judged_inits e ps (u.inits_from is.items)) w = subst (λ l. Refused (judged_inits e ps (u.inits_from l)) w) c.deref.ensures.value first in
    record {
      judged =
          err_judged _ _ c.from_residual.result w c.from_residual.ensures.1
          (group_refused _ _ w (array_row e c.args.ty.now c.in-Arr.count c.in-Arr.of c.args.init.now c.in-Group.line is c.in-Arr.is c.in-Group.is) left);
    }

pub init-returns-in_ok-parts-in-Struct : goal.init-returns-in_ok-parts-in-Struct
init-returns-in_ok-parts-in-Struct t c =
    let e : Env = env_of c.args.c.now in
    let is = c.in-Group.inits in
    let ts : List RustType = c.in_ok-types-in-Struct.types.items in
    let same : map type_of ts ≡ map (λ m. m.ty) (at_or no_tag e.tags c.in-Struct.tag.0).members =
    c.in_ok-types-in-Struct.ensures.value ∙ ap (λ l. map (λ m. m.ty) (at_or no_tag l c.in-Struct.tag.0).members) c.tags.ensures.value in
    let left : judged_inits e (map type_of ts) (u.inits_from is.items) ≡ behind (grouped c.in_ok-parts-in-Struct.parts.items) (env_of c.members.new.c) =
    ap (λ l. judged_inits e (map type_of l) (u.inits_from is.items)) (sym c.deref-in-Struct-2.ensures.value) ∙
    ap (λ l. judged_inits e (map type_of c.deref-in-Struct-2.result.now) (u.inits_from l)) (sym c.deref-in-Struct.ensures.value) ∙ c.in_ok-parts-in-Struct.ensures.judged in
    record {
      judged =
          group_says _ _ c.in_ok-parts-in-Struct.parts (env_of c.members.new.c)
          (struct_row e c.args.ty.now c.in-Struct.tag (map type_of ts) c.args.init.now c.in-Group.line is c.in-Struct.is c.in-Group.is same) left;
    }

pub init-returns-in_err-parts-in-Struct : goal.init-returns-in_err-parts-in-Struct
init-returns-in_err-parts-in-Struct t c =
    let e : Env = env_of c.args.c.now in
    let is = c.in-Group.inits in
    let ts : List RustType = c.in_ok-types-in-Struct.types.items in
    let w : TypeErr = c.in_err-parts-in-Struct.field-0.0 in
    let same : map type_of ts ≡ map (λ m. m.ty) (at_or no_tag e.tags c.in-Struct.tag.0).members =
    c.in_ok-types-in-Struct.ensures.value ∙ ap (λ l. map (λ m. m.ty) (at_or no_tag l c.in-Struct.tag.0).members) c.tags.ensures.value in
    let first : Refused (judged_inits e (map type_of c.deref-in-Struct-2.result.now) (u.inits_from is.items)) w =
    subst (λ l. Refused (judged_inits e (map type_of c.deref-in-Struct-2.result.now) (u.inits_from l)) w) c.deref-in-Struct.ensures.value c.in_err-parts-in-Struct.ensures.judged in
    let left : Refused (judged_inits e (map type_of ts) (u.inits_from is.items)) w = subst (λ l. Refused (judged_inits e (map type_of l) (u.inits_from is.items)) w) c.deref-in-Struct-2.ensures.value first in
    record {
      judged =
          err_judged _ _ c.from_residual-in_err-parts-in-Struct.result w c.from_residual-in_err-parts-in-Struct.ensures.1
          (group_refused _ _ w (struct_row e c.args.ty.now c.in-Struct.tag (map type_of ts) c.args.init.now c.in-Group.line is c.in-Struct.is c.in-Group.is same) left);
    }
