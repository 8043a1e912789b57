-- The bodies of a program are those of its units, each in the context of its unit's tags.
use Rattle.std.proofs.Common.{◌≡◌, ℕ, suc, ◌+◌, List, [], ◌∷◌, ◌++◌, map, refl, sym, ap, ◌∙◌, arith, zero-add}
use Rattle.std.proofs.lemmas.List.{map-append}
use Rattle.std.specs.List.{flat_map}
use Rattle.c_type.specs.Names.{at_or}
use Rattle.c_type.specs.Types.{Tag}
use Rattle.c_tree.specs.TUnit.{TypedUnit, Func, funcs_of, no_unit}
use Rattle.c_tree.specs.Bodies.{BodyAt, bodies_from}
use Rattle.c_run.specs.Context.{Linked, linked, context}
use Rattle.c_run.specs.Calls.{frame_of}
use Rattle.c_limit.specs.Parts.{parts}
use Rattle.c_limit.specs.Limits.{limit, local_bytes, frame_limits, frame_limit, unit_frames, Frame}
use Rattle.c_limit.specs.Laws.{FramesAreOfUnits}
use Rattle.c_limit.proofs.FrameParts.{frame_is_of_parts}

module _ (w : Linked) where
  -- body f of unit u
  abbrev body : ℕ → Func → BodyAt
  body u f = record { unit = u; func = f }

  -- its frame, where the unit's tags are ts
  one : (u : ℕ) (ts : List Tag) (f : Func) → (at_or no_unit w.units u).tags ≡ ts
      → limit (frame_of (context w (body u f)) f) 16777216 (Frame f.name) ≡ frame_limit ts f
  unfolding frame_limit
  one u ts f e =
      ap (λ n. limit n 16777216 (Frame f.name)) (sym (frame_is_of_parts (context w (body u f)) f))
      ∙ ap (λ xs. limit (local_bytes xs (parts f) + 256) 16777216 (Frame f.name)) e

  each : (u : ℕ) (ts : List Tag) (fs : List Func) → (at_or no_unit w.units u).tags ≡ ts
      → frame_limits w (map (body u) fs) ≡ map (frame_limit ts) fs
  each u ts [] e = refl
  each u ts (f ∷ fs) e =
      ap (λ x. x ∷ frame_limits w (map (body u) fs)) (one u ts f e)
      ∙ ap (λ xs. frame_limit ts f ∷ xs) (each u ts fs e)

  all : (u : ℕ) (xs : List TypedUnit) → ((j : ℕ) → at_or no_unit w.units (j + u) ≡ at_or no_unit xs j) → frame_limits w (bodies_from u xs) ≡ flat_map unit_frames xs
  all u [] h = refl
  all u (x ∷ xs) h =
      let first : at_or no_unit w.units u ≡ x = ap (at_or no_unit w.units) (sym (zero-add u)) ∙ h 0 in
      let later : (j : ℕ) → at_or no_unit w.units (j + suc u) ≡ at_or no_unit xs j = λ j. ap (at_or no_unit w.units) (moved j u) ∙ h (suc j) in
      map-append (λ b. limit (frame_of (context w b) b.func) 16777216 (Frame b.func.name)) (map (body u) (funcs_of x.exts)) (bodies_from (suc u) xs)
      ∙ (ap (λ ys. ys ++ frame_limits w (bodies_from (suc u) xs)) (each u x.tags (funcs_of x.exts) (ap (λ y. y.tags) first))
      ∙ ap (λ ys. unit_frames x ++ ys) (all (suc u) xs later))
    where
      moved : (j v : ℕ) → j + suc v ≡ suc j + v
      moved j v = omega arith

pub frames_are_of_units : FramesAreOfUnits
frames_are_of_units p = all (linked p) 0 p.units (λ j. ap (at_or no_unit p.units) (nothing j))
  where
    nothing : (j : ℕ) → j + 0 ≡ j
    nothing j = omega arith
