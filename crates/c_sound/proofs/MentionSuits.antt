-- Which mentions begin what suits, and which objects they declare.
use Rattle.std.proofs.Common.{◌≡◌, ℕ, List, [], ◌∷◌, ◌++◌, Option, Some, None, true, refl}
use Rattle.std.specs.Prelude.{nat_eq}
use Rattle.std.specs.List.{list_any, flat_map}
use Rattle.std.proofs.lemmas.Bool.{or_left, or_right, eq-eqb}
use Rattle.c_type.specs.Names.{Name}
use Rattle.c_type.specs.Types.{Tag}
use Rattle.c_tree.specs.TExpr as e
use Rattle.c_tree.specs.TExpr.{TExpr, TArgs, Ref}
use Rattle.c_tree.specs.TStmt as st
use Rattle.c_tree.specs.TStmt.{Declr, Init, Inits}
use Rattle.c_tree.specs.TUnit as u
use Rattle.c_tree.specs.TUnit.{Spec, Mems}
use Rattle.c_run.specs.Numbers.{own_numbers}
use Rattle.c_run.specs.Mentions.{Mention, Text, Use, Extern, Own, Outside, used, in_expr, in_args, in_option, in_declr, in_init, in_inits, in_begin, in_enumerator, in_spec, in_mems}
use Rattle.c_sound.specs.Unit.{Declares, IsMeant, AnyText, SuitMentions}
use Rattle.c_sound.proofs.Told.{Tells}

-- objects

-- each object that is declared is among ks
abbrev pub Among : Declares → List Mention → Type 0
Among ks [] = Unit {0}
Among ks (Text k ∷ ms) = Among ks ms
Among ks (Use x ∷ ms) = Among ks ms
Among ks (Extern x ∷ ms) = ks.object x × Among ks ms
Among ks (Own k t i ∷ ms) = (list_any (nat_eq k) ks.statics ≡ true) × Among ks ms
Among ks (Outside x t i ∷ ms) = ks.object x × Among ks ms

pub among_parts : (ks : Declares) (ms ns : List Mention) → Among ks (ms ++ ns) → Among ks ms × Among ks ns
among_parts ks [] ns h = (tt, h)
among_parts ks (Text k ∷ ms) ns h = among_parts ks ms ns h
among_parts ks (Use x ∷ ms) ns h = among_parts ks ms ns h
among_parts ks (Extern x ∷ ms) ns h = let p = among_parts ks ms ns h.1 in ((h.0, p.0), p.1)
among_parts ks (Own k t i ∷ ms) ns h = let p = among_parts ks ms ns h.1 in ((h.0, p.0), p.1)
among_parts ks (Outside x t i ∷ ms) ns h = let p = among_parts ks ms ns h.1 in ((h.0, p.0), p.1)

among_by : (ks : Declares) (ms : List Mention) → ((k : ℕ) → list_any (nat_eq k) (own_numbers ms) ≡ true → list_any (nat_eq k) ks.statics ≡ true) → Tells ks.object ms → Among ks ms
among_by ks [] f h = tt
among_by ks (Text k ∷ ms) f h = among_by ks ms f h
among_by ks (Use x ∷ ms) f h = among_by ks ms f h
among_by ks (Extern x ∷ ms) f h = (h.0, among_by ks ms f h.1)
among_by ks (Own k t i ∷ ms) f h =
    (f k (or_left (nat_eq k k) (list_any (nat_eq k) (own_numbers ms)) (eq-eqb k k refl)), among_by ks ms (λ j g. f j (or_right (nat_eq j k) (list_any (nat_eq j) (own_numbers ms)) g)) h)
among_by ks (Outside x t i ∷ ms) f h = (h.0, among_by ks ms f h.1)

-- the objects of a list are among its statics and the external ones that E tells
pub among_told : (E : Name → Type 0) (ms : List Mention) → Tells E ms → Among (record { statics = own_numbers ms; object = E }) ms
among_told E ms h = among_by (record { statics = own_numbers ms; object = E }) ms (λ k g. g) h

-- what begins

module _ (n : ℕ) (ks : Declares) (ts : List Tag) where
  abbrev Mentioned : List Mention → Type 0
  Mentioned ms = SuitMentions (IsMeant n ks) AnyText ts ms

  pub both_mention : (ms ns : List Mention) → Mentioned ms → Mentioned ns → Mentioned (ms ++ ns)
  both_mention [] ns h g = g
  both_mention (Text k ∷ ms) ns h g = both_mention ms ns h g
  both_mention (Use x ∷ ms) ns h g = both_mention ms ns h g
  both_mention (Extern x ∷ ms) ns h g = both_mention ms ns h g
  both_mention (Own k t i ∷ ms) ns h g = (h.0, both_mention ms ns h.1 g)
  both_mention (Outside x t i ∷ ms) ns h g = (h.0, h.1, both_mention ms ns h.2 g)

  pub all_mention : {A : Type 0} (f : A → List Mention) (xs : List A) → ((a : A) → Mentioned (f a)) → Mentioned (flat_map f xs)
  all_mention f [] h = tt
  all_mention f (x ∷ xs) h = both_mention (f x) (flat_map f xs) (h x) (all_mention f xs h)

  used_mentions : (r : Ref) → Mentioned (used r)
  used_mentions (e.Local i) = tt
  used_mentions (e.Param i) = tt
  used_mentions (e.Static k) = tt
  used_mentions (e.Ext x) = tt
  used_mentions (e.Func k) = tt
  used_mentions (e.Outer x) = tt
  used_mentions (e.Const n) = tt

  mutual
    pub expr_mentions : (a : TExpr) → Mentioned (in_expr a)
    expr_mentions (e.name t r) = used_mentions r
    expr_mentions (e.int t n) = tt
    expr_mentions (e.text t k) = tt
    expr_mentions (e.unary t op a) = expr_mentions a
    expr_mentions (e.deref t a) = expr_mentions a
    expr_mentions (e.address t a) = expr_mentions a
    expr_mentions (e.step t op a) = expr_mentions a
    expr_mentions (e.size_of a) = expr_mentions a
    expr_mentions (e.size_of_type of) = tt
    expr_mentions (e.cast t a) = expr_mentions a
    expr_mentions (e.convert t a) = expr_mentions a
    expr_mentions (e.decay t a) = expr_mentions a
    expr_mentions (e.designate t a) = expr_mentions a
    expr_mentions (e.binary t op a b) = both_mention (in_expr a) (in_expr b) (expr_mentions a) (expr_mentions b)
    expr_mentions (e.both a b) = both_mention (in_expr a) (in_expr b) (expr_mentions a) (expr_mentions b)
    expr_mentions (e.either a b) = both_mention (in_expr a) (in_expr b) (expr_mentions a) (expr_mentions b)
    expr_mentions (e.comma t a b) = both_mention (in_expr a) (in_expr b) (expr_mentions a) (expr_mentions b)
    expr_mentions (e.choice t c a b) = both_mention (in_expr c) (in_expr a ++ in_expr b) (expr_mentions c) (both_mention (in_expr a) (in_expr b) (expr_mentions a) (expr_mentions b))
    expr_mentions (e.assign t a b) = both_mention (in_expr a) (in_expr b) (expr_mentions a) (expr_mentions b)
    expr_mentions (e.update t op at a b) = both_mention (in_expr a) (in_expr b) (expr_mentions a) (expr_mentions b)
    expr_mentions (e.index t a i) = both_mention (in_expr a) (in_expr i) (expr_mentions a) (expr_mentions i)
    expr_mentions (e.call t f es) = both_mention (in_expr f) (in_args es) (expr_mentions f) (args_mention es)
    expr_mentions (e.member t a m) = expr_mentions a
    expr_mentions (e.arrow t a m) = expr_mentions a

    args_mention : (es : TArgs) → Mentioned (in_args es)
    args_mention e.no_args = tt
    args_mention (e.more_args a es) = both_mention (in_expr a) (in_args es) (expr_mentions a) (args_mention es)

  pub option_mentions : (a : Option TExpr) → Mentioned (in_option a)
  option_mentions None = tt
  option_mentions (Some a) = expr_mentions a

  pub declr_mentions : (d : Declr) → Mentioned (in_declr d)
  declr_mentions d = all_mention in_expr d.dims expr_mentions

  mutual
    init_mentions : (i : Init) → Mentioned (in_init i)
    init_mentions (st.single a) = expr_mentions a
    init_mentions (st.bytes bs) = tt
    init_mentions (st.group is) = inits_mention is

    inits_mention : (is : Inits) → Mentioned (in_inits is)
    inits_mention st.no_inits = tt
    inits_mention (st.more_inits i is) = both_mention (in_init i) (in_inits is) (init_mentions i) (inits_mention is)

  pub begin_mentions : (i : Option Init) → Mentioned (in_begin i)
  begin_mentions None = tt
  begin_mentions (Some i) = init_mentions i

  mutual
    pub spec_mentions : (s : Spec) → Mentioned (in_spec s)
    spec_mentions (u.plain t) = tt
    spec_mentions (u.struct_body k ms) = mems_mention ms
    spec_mentions (u.enum_body k es) = all_mention in_enumerator es (λ x. option_mentions x.expr)

    mems_mention : (ms : Mems) → Mentioned (in_mems ms)
    mems_mention u.no_mems = tt
    mems_mention (u.more_mems s ds ms) =
        both_mention (in_spec s) (flat_map in_declr ds ++ in_mems ms) (spec_mentions s)
        (both_mention (flat_map in_declr ds) (in_mems ms) (all_mention in_declr ds declr_mentions) (mems_mention ms))
