-- The rules on the bodies of tags, and the types that words name outside of blocks.
use Rattle.std.specs.Prelude.{◌≡◌, ℕ, ◌+◌, ◌%◌, List, [], ◌∷◌, ◌++◌, map, Option, Some, None, Bool, true, false, not, ◌&&◌, ◌||◌}
use Rattle.c_type.specs.Names.{Name, same_name, or_default}
use Rattle.c_type.specs.declared.Kind.TheVariants.{Int}
use Rattle.c_type.specs.declared.TagKind.{TagKind}
use Rattle.c_type.specs.declared.TagKind.TheVariants.{Struct, Enum}
use Rattle.c_type.specs.Types.{CType, num, struct, enum, Tag, Member}
use Rattle.c_tree.specs.TreeDecl as ud
use Rattle.c_tree.specs.TreeExpr.{Expr}
use Rattle.c_tree.specs.TStmt.{Declr}
use Rattle.c_tree.specs.TUnit as t
use Rattle.c_tree.specs.TUnit.{Spec, Mems, Enumerator}
use Rattle.c_rule.specs.RuleScope.{Is, Env, Entry, Constant, known, is_sized, close, past_option}
use Rattle.c_rule.specs.RuleTypes.{is_function, spec_type}
use Rattle.c_rule.specs.RuleDecls.{Number, IsConstant, past_declr, IsDeclr}
use Rattle.c_rule.specs.RuleStmts.{is_free}

-- tags

-- one more than the value before, or 0 for the first
abbrev pub next_value : Option ℕ → ℕ
next_value None = 0
next_value (Some n) = (n + 1) % 4294967296

-- an enumerator's value: that of its constant, or the next one
abbrev pub IsValued : Env → Option ℕ → Option Expr → Enumerator → Type 0
IsValued c before None y = (y.expr ≡ None) × (y.value ≡ next_value before)
IsValued c before (Some a) y = (k : Number) × IsConstant c a k × (y.value ≡ k.bits) × (y.expr ≡ Some k.expr)

abbrev pub IsEnumerator : Env → Option ℕ → ud.En → Enumerator → Type 0
IsEnumerator c before x y = (y.name ≡ x.name) × IsValued c before x.value y

abbrev pub in_file : Entry → Env → Env
in_file x c = record c { file = x ∷ c.file }

-- the enumerators of a body, each in the scope of those before it; rule 1: each is new in the file
abbrev pub AreEnumerators : Env → Option ℕ → List ud.En → List Enumerator → Env → Type 0
AreEnumerators c before [] ys c' = (ys ≡ []) × (c' ≡ c)
AreEnumerators c before (x ∷ xs) ys c' =
    (y : Enumerator) × (rest : List Enumerator) × IsEnumerator c before x y × (is_free x.name c.file ≡ true) ×
    AreEnumerators (in_file (record { name = x.name; meaning = Constant y.value }) (past_option x.value c)) (Some y.value) xs rest c' × (ys ≡ y ∷ rest)

-- rule 7: a member is no function; rule 3: its size is known
abbrev pub AreMembers : Env → CType → List ud.Declr → List Declr → Env → Type 0
AreMembers c base [] ys c' = (ys ≡ []) × (c' ≡ c)
AreMembers c base (d ∷ ds) ys c' =
    (y : Declr) × (rest : List Declr) × IsDeclr c None base d y × (is_function y.ty ≡ false) × (is_sized (known c) y.ty ≡ true) ×
    AreMembers (past_declr d c) base ds rest c' × (ys ≡ y ∷ rest)

abbrev pub member_of : Declr → Member
member_of d = record { name = d.name; off = 0; ty = d.ty }

-- rule 7: the members of a structure have different names
abbrev pub names_differ : List Name → Bool
names_differ [] = true
names_differ (x ∷ xs) = not (stands x xs) && names_differ xs
  where
    stands : Name → List Name → Bool
    stands x [] = false
    stands x (y ∷ ys) = same_name x y || stands x ys

-- a tag before its members are placed; its name is empty where it has none
abbrev pub unplaced : Option Name → TagKind → List Member → Tag
unplaced x kind ms = record { name = or_default [] x; kind = kind; members = ms; size = 0; align = 1 }

-- an enumerator is a member whose offset is its value
abbrev pub as_member : Enumerator → Member
as_member y = record { name = y.name; off = y.value; ty = num Int }

-- The type that words name outside of blocks, with the tags that they define. A body is closed behind its parts, and gets
-- the next number. No text spells the body of a union.
abbrev mutual
  pub AreTypes : Env → ud.Types → Spec → CType → Env → Type 0
  AreTypes c (ud.spec y) s base c' = (spec_type c y ≡ Is base) × (s ≡ t.plain base) × (c' ≡ c)
  AreTypes c (ud.def d) s base c' = IsDef c d s base c'

  pub IsDef : Env → ud.TagDef → Spec → CType → Env → Type 0
  IsDef c (ud.struct l x ms) s base c' =
      (ys : Mems) × (members : List Member) × (c1 : Env) × AreMems c ms ys members c1 × (names_differ (map (λ m. m.name) members) ≡ true) ×
      (s ≡ t.struct_body (known c1) ys) × (base ≡ struct (known c1)) × (c' ≡ close (unplaced x Struct members) c1)
  IsDef c (ud.union l x ms) s base c' = ⊥
  IsDef c (ud.enum l x es) s base c' =
      (ys : List Enumerator) × (c1 : Env) × AreEnumerators c None es ys c1 ×
      (s ≡ t.enum_body (known c1) ys) × (base ≡ enum (known c1)) × (c' ≡ close (unplaced x Enum (map as_member ys)) c1)

  -- the members of a body in order, without offsets
  pub AreMems : Env → ud.Mems → Mems → List Member → Env → Type 0
  AreMems c ud.no_mems ys members c' = (ys ≡ t.no_mems) × (members ≡ []) × (c' ≡ c)
  AreMems c (ud.more_mems m ms) ys members c' =
      (s : Spec) × (ds : List Declr) × (rest : Mems) × (others : List Member) × (c1 : Env) × IsMem c m s ds c1 × AreMems c1 ms rest others c' ×
      (ys ≡ t.more_mems s ds rest) × (members ≡ map member_of ds ++ others)

  pub IsMem : Env → ud.Mem → Spec → List Declr → Env → Type 0
  IsMem c (ud.mem l y ds) s xs c' = (base : CType) × (c1 : Env) × AreTypes c y s base c1 × AreMembers c1 base ds xs c'

-- words that may be left out mean int
abbrev pub AreTypesOrInt : Env → Option ud.Types → Spec → CType → Env → Type 0
AreTypesOrInt c None s base c' = (s ≡ t.plain (num Int)) × (base ≡ num Int) × (c' ≡ c)
AreTypesOrInt c (Some y) s base c' = AreTypes c y s base c'
