-- Where a map by bytes leads when a key is inserted.
use Rattle.std.proofs.Common.{◌≡◌, List, [], ◌∷◌, is_some, Bool, true, false, cond, if◌then◌else◌, Option, Some, None, refl, ap, sym, ◌∙◌, true≢false}
use Rattle.std.specs.Str.{bytes_eq}
use Rattle.std.specs.Map.{lookup}
use Rattle.std.proofs.lemmas.Slice.Eq.{bytes_eq-Decides}
use Rattle.indexmap.specs.IndexMap.{insert_entry}
use Rattle.c_type.specs.Names.{Name, pick, or_else}

pub same_bytes : (x y : Name) → bytes_eq x y ≡ true → x ≡ y
same_bytes x y e = (bytes_eq-Decides x y).0 e

module _ {K : Type 0} (f : K → Name) where
  abbrev same_key : K → K → Bool
  same_key a b = bytes_eq (f a) (f b)

module _ {K V : Type 0} (f : K → Name) where
  -- what the entries give for the bytes
  abbrev pub at_bytes : List (K × V) → Name → Option V
  at_bytes es x = lookup (λ k. bytes_eq x (f k)) es

  replaced : (k : Name) (y : Name) (a v : V) (x : Name) (rest : Option V) (b c : Bool) → k ≡ y → bytes_eq x k ≡ b → bytes_eq x y ≡ c →
      cond c (Some v) rest ≡ pick b (Some v) (cond c (Some a) rest)
  replaced k y a v x rest true true e p q = refl
  replaced k y a v x rest false false e p q = refl
  replaced k y a v x rest true false e p q = absurd (true≢false (sym p ∙ ap (bytes_eq x) e ∙ q))
  replaced k y a v x rest false true e p q = absurd (true≢false (sym q ∙ sym (ap (bytes_eq x) e) ∙ p))

  kept : (k y : Name) (a v : V) (x : Name) (rest more : Option V) (b c : Bool) → bytes_eq k y ≡ false → bytes_eq x k ≡ b → bytes_eq x y ≡ c → more ≡ pick b (Some v) rest →
      cond c (Some a) more ≡ pick b (Some v) (cond c (Some a) rest)
  kept k y a v x rest more true true d p q h = absurd (true≢false (sym q ∙ ap (λ z. bytes_eq z y) (same_bytes x k p) ∙ d))
  kept k y a v x rest more false true d p q h = refl
  kept k y a v x rest more true false d p q h = h
  kept k y a v x rest more false false d p q h = h

  pub at_inserted : (es : List (K × V)) (k : K) (v : V) (x : Name) → at_bytes (insert_entry (same_key f) es k v) x ≡ pick (bytes_eq x (f k)) (Some v) (at_bytes es x)
  at_inserted [] k v x = by (bytes_eq x (f k))
    where
      by : (b : Bool) → cond b (Some v) None ≡ pick b (Some v) None
      by true = refl
      by false = refl
  at_inserted (e ∷ es) k v x = by (bytes_eq (f k) (f e.0)) refl (at_inserted es k v x)
    where
      by : (b : Bool) → bytes_eq (f k) (f e.0) ≡ b → at_bytes (insert_entry (same_key f) es k v) x ≡ pick (bytes_eq x (f k)) (Some v) (at_bytes es x) →
          at_bytes (if b then (e.0, v) ∷ es else e ∷ insert_entry (same_key f) es k v) x ≡ pick (bytes_eq x (f k)) (Some v) (at_bytes (e ∷ es) x)
      by true p h = replaced (f k) (f e.0) e.1 v x (at_bytes es x) (bytes_eq x (f k)) (bytes_eq x (f e.0)) (same_bytes (f k) (f e.0) p) refl refl
      by false p h = kept (f k) (f e.0) e.1 v x (at_bytes es x) (at_bytes (insert_entry (same_key f) es k v) x) (bytes_eq x (f k)) (bytes_eq x (f e.0)) p refl refl h

  -- a name that has a value keeps it
  pub first_kept : (es : List (K × V)) (k : Name) (v : V) (x : Name) → is_some (at_bytes es k) ≡ true → at_bytes es x ≡ or_else (at_bytes es x) (pick (bytes_eq x k) (Some v) None)
  first_kept es k v x some = by (bytes_eq x k) refl (at_bytes es x) refl
    where
      by : (b : Bool) → bytes_eq x k ≡ b → (o : Option V) → at_bytes es x ≡ o → o ≡ or_else o (pick b (Some v) None)
      by true p None q = absurd (true≢false (sym some ∙ ap is_some (ap (at_bytes es) (sym (same_bytes x k p)) ∙ q)))
      by false p None q = refl
      by true p (Some a) q = refl
      by false p (Some a) q = refl

  -- one that has none takes it
  pub first_put : (es : List (K × V)) (k : Name) (v : V) (x : Name) → at_bytes es k ≡ None → pick (bytes_eq x k) (Some v) (at_bytes es x) ≡ or_else (at_bytes es x) (pick (bytes_eq x k) (Some v) None)
  first_put es k v x none = by (bytes_eq x k) refl (at_bytes es x) refl
    where
      by : (b : Bool) → bytes_eq x k ≡ b → (o : Option V) → at_bytes es x ≡ o → pick b (Some v) o ≡ or_else o (pick b (Some v) None)
      by true p None q = refl
      by false p None q = refl
      by true p (Some a) q = absurd (true≢false (ap is_some (sym q ∙ ap (at_bytes es) (same_bytes x k p) ∙ none)))
      by false p (Some a) q = refl
