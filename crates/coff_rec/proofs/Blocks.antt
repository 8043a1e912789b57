-- The end of a block is the end of whole scopes.
use Rattle.std.proofs.Common.{◌≡◌, ℕ, zero, suc, List, [], ◌∷◌, Option, Some, refl, sym, ap, subst, ◌∙◌}
use Rattle.coff_rec.specs.declared.nesting.Kind.{Kind}
use Rattle.coff_rec.specs.declared.nesting.Kind.TheVariants.{Tag, Member, EndOfTag, Function, BodyBegin, BodyEnd, BlockBegin, BlockEnd, Misnamed, Other}
use Rattle.coff_rec.specs.Nesting.{Nested, block_by, block_end}
use Rattle.coff_rec.specs.Scopes.{Scope, plain, block, Scopes, none, more, scope_then, scopes_then, IsPlain, IsScope, AreScopes, EndsBefore, EndsAreScopes}

plain_by : (k : Kind) (next inner : ℕ) (rest : ℕ → Option ℕ) → IsPlain k → block_by k next inner rest ≡ rest inner
plain_by BodyBegin next inner rest h = absurd h
plain_by BodyEnd next inner rest h = absurd h
plain_by BlockBegin next inner rest h = absurd h
plain_by BlockEnd next inner rest h = absurd h
plain_by Tag next inner rest h = refl
plain_by Member next inner rest h = refl
plain_by EndOfTag next inner rest h = refl
plain_by Function next inner rest h = refl
plain_by Other next inner rest h = refl
plain_by Misnamed next inner rest h = refl

-- whole scopes are passed
mutual
  pub passes : (s : Scope) (rest : List Nested) (inner : ℕ) → IsScope s → block_end (scope_then s rest) inner ≡ block_end rest inner
  passes (plain e) rest inner h = plain_by e.kind e.next inner (block_end rest) h
  passes (block begin inside end) rest inner h =
      ap (λ k. block_by k begin.next inner (block_end (scopes_then inside (end ∷ rest)))) h.0
      ∙ pass inside (end ∷ rest) (suc inner) h.1
      ∙ ap (λ k. block_by k end.next (suc inner) (block_end rest)) h.2

  pub pass : (ss : Scopes) (rest : List Nested) (inner : ℕ) → AreScopes ss → block_end (scopes_then ss rest) inner ≡ block_end rest inner
  pass none rest inner h = refl
  pass (more s ss) rest inner h = passes s (scopes_then ss rest) inner h.0 ∙ pass ss rest inner h.1

-- a block whose inside is scopes ends at its .eb
ends : (inside : Scopes) (end : Nested) (rest : List Nested) → AreScopes inside → end.kind ≡ BlockEnd → block_end (scopes_then inside (end ∷ rest)) 0 ≡ Some end.next
ends inside end rest h k = pass inside (end ∷ rest) 0 h ∙ ap (λ k. block_by k end.next 0 (block_end rest)) k

-- what closes the blocks that are open: behind whole scopes, for each block between one more
abbrev Closes : ℕ → List Nested → ℕ → Type 0
Closes zero es n = EndsBefore es n
Closes (suc inner) es n = (ss : Scopes) × AreScopes ss × (end : Nested) × (end.kind ≡ BlockEnd) × (rest : List Nested) × (es ≡ scopes_then ss (end ∷ rest)) × Closes inner rest n

-- one more symbol in front
front : (e : Nested) (inner n : ℕ) (es : List Nested) → IsPlain e.kind → Closes inner es n → Closes inner (e ∷ es) n
front e zero n es h c = (more (plain e) c.0, (h, c.1), c.2, c.3, c.4, c.5, ap (λ t. e ∷ t) c.6)
front e (suc inner) n es h c = (more (plain e) c.0, (h, c.1), c.2, c.3, c.4, ap (λ t. e ∷ t) c.5, c.6)

-- a block in front
wrap : (e : Nested) (inner n : ℕ) (es : List Nested) → e.kind ≡ BlockBegin → Closes (suc inner) es n → Closes inner (e ∷ es) n
wrap e zero n es h c =
    let d = c.6 in
    (more (block e c.0 c.2) d.0, ((h, c.1, c.3), d.1), d.2, d.3, d.4, d.5, ap (λ t. e ∷ t) (c.5 ∙ ap (λ t. scopes_then c.0 (c.2 ∷ t)) d.6))
wrap e (suc inner) n es h c =
    let d = c.6 in
    (more (block e c.0 c.2) d.0, ((h, c.1, c.3), d.1), d.2, d.3, d.4, ap (λ t. e ∷ t) (c.5 ∙ ap (λ t. scopes_then c.0 (c.2 ∷ t)) d.5), d.6)

some_is : (x y : ℕ) → Some x ≡ Some y → x ≡ y
some_is x y e = cc

-- where a block ends, there are scopes up to the end
closes : (es : List Nested) (inner n : ℕ) → block_end es inner ≡ Some n → Closes inner es n
closes [] inner n h = absurd cc
closes (e ∷ es) inner n h = by (λ d x. closes es d n x) e.kind refl inner h
  where
    other : ((d : ℕ) → block_end es d ≡ Some n → Closes d es n) → (k : Kind) → IsPlain k → e.kind ≡ k → (inner : ℕ) → block_end es inner ≡ Some n → Closes inner (e ∷ es) n
    other deep k l same inner h = front e inner n es (subst IsPlain (sym same) l) (deep inner h)

    by : ((d : ℕ) → block_end es d ≡ Some n → Closes d es n) → (k : Kind) → e.kind ≡ k → (inner : ℕ) → block_by k e.next inner (block_end es) ≡ Some n → Closes inner (e ∷ es) n
    by deep BlockBegin same inner h = wrap e inner n es same (deep (suc inner) h)
    by deep BlockEnd same zero h = (none, tt, e, same, some_is e.next n h, es, refl)
    by deep BlockEnd same (suc inner) h = (none, tt, e, same, es, refl, deep inner h)
    by deep BodyBegin same inner h = absurd cc
    by deep BodyEnd same inner h = absurd cc
    by deep Tag same inner h = other deep Tag tt same inner h
    by deep Member same inner h = other deep Member tt same inner h
    by deep EndOfTag same inner h = other deep EndOfTag tt same inner h
    by deep Function same inner h = other deep Function tt same inner h
    by deep Other same inner h = other deep Other tt same inner h
    by deep Misnamed same inner h = other deep Misnamed tt same inner h

-- the end of a block is that of whole scopes
pub ends_are_scopes : EndsAreScopes
ends_are_scopes es n = (closes es 0 n, back)
  where
    back : EndsBefore es n → block_end es 0 ≡ Some n
    back w = ap (λ es. block_end es 0) w.6 ∙ ends w.0 w.2 w.5 w.1 w.3 ∙ ap Some w.4
