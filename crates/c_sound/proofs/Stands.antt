-- What holds where a part of a unit stands: names, members and their types are as the rules on types say.
use Rattle.std.proofs.Common.{◌≡◌, ℕ, zero, suc, ◌+◌, ◌<◌, List, [], ◌∷◌, length, Option, Some, None, Bool, true, false, subst, arith}
use Rattle.std.specs.Prelude.{◌&&◌, ◌||◌}
use Rattle.c_type.specs.Names.{Name, same_name, pick, at_or, or_else}
use Rattle.c_type.specs.Types.{CType, Tag, Member}
use Rattle.c_type.specs.Sizes.{no_tag}
use Rattle.c_tree.specs.TExpr.{Ref}
use Rattle.c_rule.specs.RuleScope.{Env, Meaning, Entry, Body, in_scope, in_scopes, meaning_of, same_bool, body_from, ref_or_outer, function_ref, is_sized, past, past_option, started}
use Rattle.c_tree.specs.TreeDecl as ud
use Rattle.c_tree.specs.TreeExpr.{Expr}
use Rattle.c_rule.specs.RuleDecls.{past_declr}
use Rattle.c_rule.specs.RuleTypes.{is_void, void_is_a_result, is_function, elements_are_objects, functions_return}
use Rattle.c_sound.specs.Unit.{Declares, IsMeant}
use Rattle.c_sound.proofs.Means.{Means, ScopesMean, EntriesMean}

-- void stands alone, or it is the result of a function and nothing else
abbrev pub void_in_place : CType → Bool
void_in_place t = is_void t || void_is_a_result t

-- a type in which no element of an array is a function, each function returns what it may, and void is in its place
abbrev pub IsSane : CType → Type 0
IsSane t = (elements_are_objects t ≡ true) × (functions_return t ≡ true) × (void_in_place t ≡ true)

-- a type that a name or a member may have
abbrev pub IsDeclared : CType → Type 0
IsDeclared t = IsSane t × (is_void t ≡ false)

-- members of a tag before which n tags are closed: no functions, and sized there
abbrev pub SaneMembers : ℕ → List Member → Type 0
SaneMembers n [] = Unit {0}
SaneMembers n (m ∷ ms) = (is_function m.ty ≡ false) × IsDeclared m.ty × (is_sized n m.ty ≡ true) × SaneMembers n ms

-- tags, the first of which has the number n
abbrev pub SaneTags : ℕ → List Tag → Type 0
SaneTags n [] = Unit {0}
SaneTags n (t ∷ ts) = (t.size < 4294967296) × SaneMembers n t.members × SaneTags (suc n) ts

-- a name with its type
abbrev pub IsSaneName : (bodies : ℕ) → Declares → CType → Ref → Type 0
IsSaneName n ks t r = IsMeant n ks t r × IsDeclared t

-- where a part of a unit of n bodies stands that declares the objects ks; ts are the tags that are closed there
pub record Stands (n : ℕ) (ks : Declares) (ts : List Tag) (c : Env) : Type 0 where
  pub bodies : length c.bodies ≡ n
  pub blocks : ScopesMean (IsSaneName n ks) c.blocks
  pub file : EntriesMean (IsSaneName n ks) c.file
  pub tags : c.tags ≡ ts
  pub sane : SaneTags 0 ts

-- the members of a tag, with the number of a tag that is not before it
pub members_at : (n k : ℕ) (ts : List Tag) → SaneTags n ts → SaneMembers (n + k) (at_or no_tag ts k).members
members_at n k [] h = tt
members_at n zero (t ∷ ts) h = subst (λ m. SaneMembers m t.members) (omega arith) h.1
members_at n (suc k) (t ∷ ts) h = subst (λ m. SaneMembers m (at_or no_tag ts k).members) (omega arith) (members_at (suc n) k ts h.2)

-- names

pub pick_is : {A : Type 0} (P : A → Type 0) (b : Bool) (x y : A) → P x → P y → P (pick b x y)
pick_is P true x y h g = h
pick_is P false x y h g = g

abbrev pub OptionMeans : (R : CType → Ref → Type 0) → Option Meaning → Type 0
OptionMeans R None = Unit {0}
OptionMeans R (Some m) = Means R m

or_else_means : (R : CType → Ref → Type 0) (a b : Option Meaning) → OptionMeans R a → OptionMeans R b → OptionMeans R (or_else a b)
or_else_means R None b h g = g
or_else_means R (Some m) b h g = h

pub scope_means : (R : CType → Ref → Type 0) (x : Name) (es : List Entry) → EntriesMean R es → OptionMeans R (in_scope x es)
scope_means R x [] h = tt
scope_means R x (y ∷ ys) h = pick_is (OptionMeans R) (same_name x y.name) (Some y.meaning) (in_scope x ys) h.0 (scope_means R x ys h.1)

scopes_mean : (R : CType → Ref → Type 0) (x : Name) (ess : List (List Entry)) → ScopesMean R ess → OptionMeans R (in_scopes x ess)
scopes_mean R x [] h = tt
scopes_mean R x (es ∷ rest) h = or_else_means R (in_scope x es) (in_scopes x rest) (scope_means R x es h.0) (scopes_mean R x rest h.1)

-- what a name means where a part stands
pub name_means : {n : ℕ} {ks : Declares} {ts : List Tag} (c : Env) (x : Name) → Stands n ks ts c → OptionMeans (IsSaneName n ks) (meaning_of c x)
name_means {n} {ks} c x h = or_else_means (IsSaneName n ks) (in_scopes x c.blocks) (in_scope x c.file) (scopes_mean (IsSaneName n ks) x c.blocks h.blocks) (scope_means (IsSaneName n ks) x c.file h.file)

-- a body's number is below the number of bodies
body_meant : (n : ℕ) (ks : Declares) (k : ℕ) (fs : List Body) (s : Bool) (x : Name) (t : CType) → k + length fs ≡ n → is_function t ≡ true →
    IsMeant n ks t (ref_or_outer x (body_from k fs s x))
body_meant n ks k [] s x t q h = h
body_meant n ks k (f ∷ fs) s x t q h = case_of (same_name x f.name && same_bool s f.is_static) (body_meant n ks (suc k) fs s x t (omega arith) h)
  where
    case_of : (b : Bool) → IsMeant n ks t (ref_or_outer x (body_from (suc k) fs s x)) → IsMeant n ks t (ref_or_outer x (pick b (Some k) (body_from (suc k) fs s x)))
    case_of true g = (h, omega arith)
    case_of false g = g

pub function_meant : (n : ℕ) (ks : Declares) (c : Env) (s : Bool) (x : Name) (t : CType) → length c.bodies ≡ n → is_function t ≡ true → IsMeant n ks t (function_ref c s x)
function_meant n ks c s x t q h = body_meant n ks 0 c.bodies s x t (omega arith) h

-- parts that declare nothing

module _ (n : ℕ) (ks : Declares) (ts : List Tag) where
  pub past_stands : (a : Expr) (c : Env) → Stands n ks ts c → Stands n ks ts (past a c)
  past_stands a c h = record { bodies = h.bodies; blocks = h.blocks; file = h.file; tags = h.tags; sane = h.sane }

  pub option_stands : (a : Option Expr) (c : Env) → Stands n ks ts c → Stands n ks ts (past_option a c)
  option_stands None c h = h
  option_stands (Some a) c h = past_stands a c h

  pub started_stands : (m : ℕ) (c : Env) → Stands n ks ts c → Stands n ks ts (started m c)
  started_stands m c h = record { bodies = h.bodies; blocks = h.blocks; file = h.file; tags = h.tags; sane = h.sane }

  pub statics_stand : (k : ℕ) (c : Env) → Stands n ks ts c → Stands n ks ts (record c { statics = k })
  statics_stand k c h = record { bodies = h.bodies; blocks = h.blocks; file = h.file; tags = h.tags; sane = h.sane }

  pub declr_stands : (d : ud.Declr) (c : Env) → Stands n ks ts c → Stands n ks ts (past_declr d c)
  declr_stands (ud.pointer l d) c h = declr_stands d c h
  declr_stands (ud.name l x) c h = h
  declr_stands (ud.array l d a) c h = option_stands a (past_declr d c) (declr_stands d c h)
  declr_stands (ud.function l d xs) c h = declr_stands d c h
