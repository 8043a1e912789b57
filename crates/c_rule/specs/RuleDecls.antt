-- The rules on declarators, constants and initialisers.
use Rattle.std.specs.Prelude.{◌≡◌, ℕ, zero, suc, ◌+◌, ◌-◌, ◌*◌, List, [], ◌∷◌, ◌++◌, length, map, replicate, Option, Some, None, Bool, true, false, not, nat_eq, nat_le, ◌&&◌, ◌||◌}
use Rattle.c_type.specs.Names.{Name, pick, at_or}
use Rattle.c_type.specs.declared.Kind.TheVariants.{Char}
use Rattle.c_type.specs.Types.{CType, num, ptr, arr, struct, fun, Tag, Member, is_integer, is_pointer, signed_type, target}
use Rattle.c_type.specs.Sizes.{size, no_tag}
use Rattle.c_tree.specs.TreeExpr as u
use Rattle.c_tree.specs.TreeDecl as ud
use Rattle.c_tree.specs.TExpr as e
use Rattle.c_tree.specs.declared.typed_expr.TBinary.TheVariants as tb
use Rattle.c_tree.specs.TExpr.{TExpr, type_of}
use Rattle.c_tree.specs.TStmt as st
use Rattle.c_tree.specs.TStmt.{Declr}
use Rattle.c_tree.specs.Constant.{constant, given, is_zero}
use Rattle.c_rule.specs.RuleScope.{Judged, Is, Fails, onward, provided, Env, past, past_option}
use Rattle.c_rule.specs.RuleTypes.{declared_type}
use Rattle.c_rule.specs.RuleValues.{used, taken, value_for}
use Rattle.c_rule.specs.RuleTree.{Gives}

-- a constant expression with its 32 bits
pub record Number : Type 0 where
  pub expr : TExpr
  pub bits : ℕ

abbrev pub with_bits : TExpr → Option ℕ → Judged Number
with_bits v None = Fails 9
with_bits v (Some n) = Is (record { expr = v; bits = n })

-- rule 9: a constant
abbrev pub constant_of : Env → TExpr → Judged Number
constant_of c x = onward (used x) (λ v. with_bits v (constant c.tags v))

abbrev pub IsConstant : Env → u.Expr → Number → Type 0
IsConstant c a k = Gives (constant_of c) c a k

abbrev pub is_positive : CType → ℕ → Bool
is_positive t n = not (nat_eq n 0) && not (signed_type t && nat_le 2147483648 n)

-- rule 5: a dimension is a constant of at least 1
abbrev pub dimension_of : Env → TExpr → Judged Number
dimension_of c x = onward (constant_of c x) (λ k. provided 5 (is_positive (type_of k.expr) k.bits) (Is k))

-- whether nothing stands between an array's brackets and its name
abbrev pub is_name : ud.Declr → Bool
is_name (ud.name l x) = true
is_name _ = false

-- behind a declarator, whose dimensions stand from the inside to the outside
abbrev pub past_declr : ud.Declr → Env → Env
past_declr (ud.pointer l d) c = past_declr d c
past_declr (ud.name l x) c = c
past_declr (ud.array l d a) c = past_option a (past_declr d c)
past_declr (ud.function l d xs) c = past_declr d c

-- Rule 5: only the outermost dimension may be missing, and only where `missing` gives its number. The
-- declarator x has the type t, where base is the type that its words give, and es are its dimensions in textual order.
abbrev pub IsDerived : Env → Option ℕ → CType → ud.Declr → (x : Name) (t : CType) (es : List TExpr) → Type 0
IsDerived c missing base (ud.pointer l d) x t es = IsDerived c missing (ptr base) d x t es
IsDerived c missing base (ud.name l y) x t es = (x ≡ y) × (t ≡ base) × (es ≡ [])
IsDerived c missing base (ud.array l d None) x t es = (n : ℕ) × (is_name d ≡ true) × (missing ≡ Some n) × IsDerived c missing (arr n base) d x t es
IsDerived c missing base (ud.array l d (Some a)) x t es =
    (k : Number) × (rest : List TExpr) × IsDerived c missing (arr k.bits base) d x t rest × Gives (dimension_of (past_declr d c)) (past_declr d c) a k ×
    (es ≡ rest ++ k.expr ∷ [])
IsDerived c missing base (ud.function l d xs) x t es = IsDerived c missing (fun base) d x t es

-- a declarator with its type, which meets the rules on types
abbrev pub IsDeclr : Env → Option ℕ → CType → ud.Declr → Declr → Type 0
IsDeclr c missing base d r = IsDerived c missing base d r.name r.ty r.dims × (declared_type c r.ty ≡ Is r.ty)

-- addresses that are constants

-- the size of an object of static life, and an offset in it
pub record Spot : Type 0 where
  pub size : ℕ
  pub off : ℕ

-- an array whose dimension is missing has at least one element
abbrev pub least_size : List Tag → CType → ℕ
least_size ts (arr n t) = pick (nat_eq n 0) (size ts t) (size ts (arr n t))
least_size ts t = size ts t

abbrev pub inside : Spot → Option Spot
inside s = pick (nat_le s.off s.size) (Some s) None

-- a spot moved up or down, inside its object or to its end
abbrev pub moved_by : Bool → ℕ → Spot → Option Spot
moved_by true d s = pick (nat_le d s.off) (inside (record s { off = s.off - d })) None
moved_by false d s = inside (record s { off = s.off + d })

-- a spot moved by elements of that size; the number is read by its type
abbrev pub moved_elements : (step : ℕ) (signed down : Bool) → ℕ → Spot → Option Spot
moved_elements step signed down n s =
    pick (signed && nat_le 2147483648 n) (moved_by (not down) ((4294967296 - n) * step) s) (moved_by down (n * step) s)

abbrev pub is_lasting : e.Ref → Bool
is_lasting (e.Static k) = true
is_lasting (e.Ext x) = true
is_lasting _ = false

abbrev pub member_off : List Tag → CType → ℕ → ℕ
member_off ts (struct k) m = member_at m (at_or no_tag ts k).members
  where
    member_at : ℕ → List Member → ℕ
    member_at m [] = 0
    member_at zero (x ∷ xs) = x.off
    member_at (suc m) (x ∷ xs) = member_at m xs
member_off ts _ m = 0

-- the spot that a place or a pointer names, if it is known before the run
abbrev mutual
  pub place_spot : List Tag → TExpr → Option Spot
  place_spot ts (e.name t r) = pick (is_lasting r) (Some (record { size = least_size ts t; off = 0 })) None
  place_spot ts (e.text t k) = Some (record { size = size ts t; off = 0 })
  place_spot ts (e.deref t a) = pointer_spot ts a
  place_spot ts (e.index t a i) = given (pointer_spot ts a) (λ s. given (constant ts i) (λ n. moved_elements (size ts t) (signed_type (type_of i)) false n s))
  place_spot ts (e.member t a m) = given (place_spot ts a) (moved_by false (member_off ts (type_of a) m))
  place_spot ts (e.arrow t a m) = given (pointer_spot ts a) (moved_by false (member_off ts (target (type_of a)) m))
  place_spot ts _ = None

  pub pointer_spot : List Tag → TExpr → Option Spot
  pointer_spot ts (e.address t a) = place_spot ts a
  pointer_spot ts (e.decay t a) = place_spot ts a
  pointer_spot ts (e.binary t tb.Add a b) =
      pick (is_pointer (type_of a))
      (given (pointer_spot ts a) (λ s. given (constant ts b) (λ n. moved_elements (size ts (target t)) (signed_type (type_of b)) false n s)))
      (given (pointer_spot ts b) (λ s. given (constant ts a) (λ n. moved_elements (size ts (target t)) (signed_type (type_of a)) false n s)))
  pointer_spot ts (e.binary t tb.Sub a b) = given (pointer_spot ts a) (λ s. given (constant ts b) (λ n. moved_elements (size ts (target t)) (signed_type (type_of b)) true n s))
  pointer_spot ts _ = None

abbrev pub is_some : {A : Type 0} → Option A → Bool
is_some None = false
is_some (Some a) = true

abbrev pub names_function : TExpr → Bool
names_function (e.name (fun t) r) = true
names_function _ = false

-- the address of a function
abbrev pub is_function_address : TExpr → Bool
is_function_address (e.designate t a) = names_function a
is_function_address (e.address t a) = names_function a
is_function_address _ = false

-- Rule 10 on a scalar: an integer takes a constant; a pointer takes the constant 0, the address of an object of static life
-- or of a part of one at constant offsets, the address of a function, or a text.
abbrev pub is_known : List Tag → CType → TExpr → Bool
is_known ts t v =
    (is_integer t && is_some (constant ts v)) || (is_pointer t && ((is_integer (type_of v) && is_zero ts v) || (is_some (pointer_spot ts v) || is_function_address v)))

abbrev pub is_char : CType → Bool
is_char (num Char) = true
is_char _ = false

abbrev pub is_char_array : CType → Bool
is_char_array (arr n t) = is_char t
is_char_array _ = false

abbrev pub dimension : CType → ℕ
dimension (arr n t) = n
dimension _ = 0

-- the types of the parts of an array or a structure
abbrev pub part_types : List Tag → CType → List CType
part_types ts (arr n t) = replicate n t
part_types ts (struct k) = map (λ m. m.ty) (at_or no_tag ts k).members
part_types ts _ = []

abbrev pub is_aggregate : CType → Bool
is_aggregate (arr n t) = true
is_aggregate (struct k) = true
is_aggregate _ = false

-- a text fills an array of char that has room for all its bytes but the last
abbrev pub fills_chars : CType → u.Expr → Bool
fills_chars t (u.text l bs) = is_char_array t && nat_le (length bs) (dimension t)
fills_chars t _ = false

-- the bytes of a text, the zero byte too
abbrev pub bytes_of : u.Expr → List ℕ
bytes_of (u.text l bs) = bs ++ 0 ∷ []
bytes_of _ = []

-- rule 10: the value with which a scalar of static life begins
abbrev pub first_value : Env → CType → TExpr → Judged TExpr
first_value c t x = onward (used x) (λ v. provided 10 (is_known c.tags t v) (taken 10 c t v))

-- an expression as an initialiser: a text that fills an array of char, and is no object then, or a value
abbrev pub IsSingle : (fills : Bool) → Env → CType → u.Expr → st.Init → Env → Type 0
IsSingle true c t a j c' = (j ≡ st.bytes (bytes_of a)) × (c' ≡ c)
IsSingle false c t a j c' = (v : TExpr) × Gives (first_value c t) c a v × (j ≡ st.single v) × (c' ≡ past a c)

-- Rule 10: an initialiser of static life, by the type of what it initialises. A list has at most as many parts.
abbrev mutual
  pub IsInit : Env → CType → ud.Init → st.Init → Env → Type 0
  IsInit c t (ud.single a) j c' = IsSingle (fills_chars t a) c t a j c'
  IsInit c t (ud.group l is) j c' = (js : st.Inits) × (is_aggregate t ≡ true) × AreInits c (part_types c.tags t) is js c' × (j ≡ st.group js)

  pub AreInits : Env → List CType → ud.Inits → st.Inits → Env → Type 0
  AreInits c ts ud.no_inits js c' = (js ≡ st.no_inits) × (c' ≡ c)
  AreInits c [] (ud.more_inits i is) js c' = ⊥
  AreInits c (t ∷ ts) (ud.more_inits i is) js c' =
      (j : st.Init) × (rest : st.Inits) × (c1 : Env) × IsInit c t i j c1 × AreInits c1 ts is rest c' × (js ≡ st.more_inits j rest)

-- an initialiser of static life that may be left out
abbrev pub Begins : Env → CType → Option ud.Init → Option st.Init → Env → Type 0
Begins c t None j c' = (j ≡ None) × (c' ≡ c)
Begins c t (Some i) j c' = (k : st.Init) × IsInit c t i k c' × (j ≡ Some k)

-- rule 11: an automatic initialiser is for a scalar, and allowed as by rule 21
abbrev pub IsAutoInit : Env → CType → ud.Init → TExpr → Type 0
IsAutoInit c t (ud.single a) w = Gives (value_for 11 c t) c a w
IsAutoInit c t (ud.group l is) w = ⊥

abbrev pub count_inits : ud.Inits → ℕ
count_inits ud.no_inits = 0
count_inits (ud.more_inits i is) = suc (count_inits is)

-- the number that an initialiser gives to a missing dimension, which is at least 1
abbrev pub given_by : Option ud.Init → Option ℕ
given_by (Some (ud.single (u.text l bs))) = Some (suc (length bs))
given_by (Some (ud.group l (ud.more_inits i is))) = Some (suc (count_inits is))
given_by _ = None
