-- The bodies of tags by the lists of their parts.
use Rattle.std.proofs.Common.{◌≡◌, ℕ, List, [], ◌∷◌, ◌++◌, map, Option, true, Vec, Global, refl, sym, ap, ◌∙◌, append_assoc}
use mathlib.Core.Former.{Count}
use Rattle.c_type.specs.declared.Member.{Member}
use Rattle.c_type.specs.Names.{Name}
use Rattle.c_type.specs.Of.{member_of, members_of}
use Rattle.c_tree.specs.declared.decl.Mem.{Mem}
use Rattle.c_tree.specs.declared.decl.TagDef.{TagDef, Struct}
use Rattle.c_tree.specs.TreeDecl as td
use Rattle.c_tree.specs.TreeOf.{def_of, mems_from}
use Rattle.c_tree.proofs.Of.{def_of-Struct}
use Rattle.c_tree.specs.declared.typed_unit.TSpec as g
use Rattle.c_tree.specs.declared.typed_unit.TSpec.{TSpec}
use Rattle.c_tree.specs.declared.typed_unit.TMembers.{TMembers}
use Rattle.c_tree.specs.TUnit as u
use Rattle.c_tree.specs.TypedOf.{spec_of, mems_of, declr_of}
use Rattle.c_type.specs.declared.TagKind.TheVariants.{Struct as StructKind}
use Rattle.c_type.specs.Types.{Tag, Member as TypeMember, struct}
use Rattle.c_rule.specs.RuleScope.{Judged, onward, provided, Env, known, close}
use Rattle.c_rule.specs.RuleTags.{names_differ, unplaced}
use Rattle.c_rule.specs.Judging.{Behind, behind}
use Rattle.c_rule.specs.JudgingUnit as j
use Rattle.c_local.proofs.Lists.{onto}
use Rattle.c_tag.specs.TagParts.{mem_part, put, body_from}

mems_are : (n : _) (row : g.TheBlock.Row_of-TMembers n) → mems_of row ≡ (body_from (g.TheBlock.items-the_row-TMembers n row)).mems
mems_are n g.TheBlock.end_of-TMembers = refl
mems_are n (g.TheBlock.more_of-TMembers s ds ms) = ap (u.more_mems (spec_of s) (map declr_of ds.items)) (mems_are _ ms)

abbrev mems_in : TSpec → (n : Count) × g.TheBlock.Row_of-TMembers n
mems_in (g.TheBlock.Struct' _ n row) = (_, row)
mems_in _ = (_, g.TheBlock.end_of-TMembers)

-- the words of a structure with its body
pub struct_is : (k : ℕ) (ms : Vec TMembers Global) → spec_of (g.TheVariants.Struct k ms) ≡ u.struct_body k (body_from ms.items).mems
struct_is k ms =
    let row = mems_in (g.TheVariants.Struct k ms) in
    ap (u.struct_body k) (mems_are row.0 row.1 ∙ ap (λ l. (body_from l).mems) (g.TheBlock.items_hidden-the_row-TMembers-0 ms))

-- a body is that of its parts
pub onto_body : (ms : List TMembers) → onto (λ x r. put (mem_part x) r) ms (record { mems = u.no_mems; members = [] }) ≡ body_from ms
onto_body [] = refl
onto_body (m ∷ ms) = ap (put (mem_part m)) (onto_body ms)

-- the body of a structure in the source
pub source_struct : (d : TagDef) (l : ℕ) (x : Option Name) (ms : Vec Mem Global) → d ≡ Struct l x ms → def_of d ≡ td.struct l x (mems_from ms.items)
source_struct d l x ms q = ap def_of q ∙ def_of-Struct l x ms

-- the members of a list with one more
pub members_pushed : (ms : List Member) (m : Member) → members_of (ms ++ m ∷ []) ≡ members_of ms ++ member_of m ∷ []
members_pushed [] m = refl
members_pushed (x ∷ ms) m = ap (λ l. member_of x ∷ l) (members_pushed ms m)

-- one member more, of those that are left
pub one_member_more : (ms ns : List Member) (m : Member) (y : TypeMember) (left rest whole : List TypeMember) → ns ≡ ms ++ m ∷ [] → member_of m ≡ y → left ≡ y ∷ rest →
    members_of ms ++ left ≡ whole → members_of ns ++ rest ≡ whole
one_member_more ms ns m y left rest whole e same first h =
    ap (λ l. members_of l ++ rest) e ∙ ap (λ l. l ++ rest) (members_pushed ms m) ∙ append_assoc (members_of ms) (member_of m ∷ []) rest ∙
    ap (λ z. members_of ms ++ (z ∷ rest)) same ∙ ap (λ l. members_of ms ++ l) (sym first) ∙ h

-- a structure whose body is closed
pub struct_row : (c e1 e2 : Env) (l : ℕ) (x : Option Name) (ms : td.Mems) (b : j.Body) (n : ℕ) (tag : Tag) (ty : j.Typed) → j.judged_mems c ms ≡ behind b e1 →
    names_differ (map (λ m. m.name) b.members) ≡ true → n ≡ known e1 → tag ≡ unplaced x StructKind b.members → e2 ≡ close tag e1 → ty ≡ record { spec = u.struct_body n b.mems; base = struct n } →
    j.judged_def c (td.struct l x ms) ≡ behind ty e2
struct_row c e1 e2 l x ms b n tag ty says differ number laid closed is =
    let after : j.Body → Env → Judged (Behind j.Typed) =
    λ b e. provided 7 (names_differ (map (λ m. m.name) b.members)) (j.typed (u.struct_body (known e) b.mems) (struct (known e)) (close (unplaced x StructKind b.members) e)) in
    ap (λ y. onward y (λ r. after r.tree r.env)) says ∙
    ap (λ q. provided 7 q (j.typed (u.struct_body (known e1) b.mems) (struct (known e1)) (close (unplaced x StructKind b.members) e1))) differ ∙
    ap (λ k. j.typed (u.struct_body k b.mems) (struct k) (close (unplaced x StructKind b.members) e1)) (sym number) ∙
    ap (λ g. j.typed (u.struct_body n b.mems) (struct n) (close g e1)) (sym laid) ∙ ap (λ e. j.typed (u.struct_body n b.mems) (struct n) e) (sym closed) ∙ ap (λ t. behind t e2) (sym is)
