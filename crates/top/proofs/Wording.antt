-- What words ask for, by their first ones.
use Rattle.std.proofs.Common.{◌≡◌, ℕ, ◌<◌, ◌≤◌, List, [], ◌∷◌, length, drop, true, false, refl, ap, ◌∙◌, arith}
use Rattle.std.specs.Prelude.{Option, Some, None, Bool, slice_get, if◌then◌else◌, nat_le, codes}
use Rattle.std.specs.Str.{bytes_eq}
use Rattle.std.proofs.lemmas.Bool.Decides.{nat_tests}
use Rattle.top.specs.Command.{Request, number_of, are_files, with_number, asked_by_run, asked_by, asked, asked_for, files_asked}
use Rattle.small_form.proofs.Shaped.{none_some, some_is}

-- `-n` and a number stand before the files
pub run_limited : (ws : List (List ℕ)) (a b : List ℕ) → slice_get ws 0 ≡ Some a → slice_get ws 1 ≡ Some b → bytes_eq a (codes "-n") ≡ true → asked_by_run ws ≡ with_number (number_of b) (drop 2 ws)
run_limited [] a b first second is = absurd (none_some a first)
run_limited (x ∷ []) a b first second is = absurd (none_some b second)
run_limited (x ∷ y ∷ ws) a b first second is =
    let option : bytes_eq x (codes "-n") ≡ true = ap (λ z. bytes_eq z (codes "-n")) (some_is x a first) ∙ is in
    ap (λ t. if t then with_number (number_of y) ws else with_number (Some 100000000) (x ∷ y ∷ ws)) option ∙ ap (λ z. with_number (number_of z) ws) (some_is y b second)

-- another word stands first
pub run_plain : (ws : List (List ℕ)) (a : List ℕ) → slice_get ws 0 ≡ Some a → bytes_eq a (codes "-n") ≡ false → asked_by_run ws ≡ with_number (Some 100000000) ws
run_plain [] a first is = absurd (none_some a first)
run_plain (x ∷ []) a first is = refl
run_plain (x ∷ y ∷ ws) a first is =
    let option : bytes_eq x (codes "-n") ≡ false = ap (λ z. bytes_eq z (codes "-n")) (some_is x a first) ∙ is in
    ap (λ t. if t then with_number (number_of y) ws else with_number (Some 100000000) (x ∷ y ∷ ws)) option

-- fewer than two words
pub run_few : (ws : List (List ℕ)) → length ws < 2 → asked_by_run ws ≡ with_number (Some 100000000) ws
run_few [] few = refl
run_few (x ∷ []) few = refl
run_few (x ∷ y ∷ ws) few = absurd (omega arith)

-- `run` stands first, and the words aren't too many
pub asked_run : (ws : List (List ℕ)) (a : List ℕ) → nat_le (length ws) 10000 ≡ true → slice_get ws 0 ≡ Some a → bytes_eq a (codes "run") ≡ true → asked ws ≡ asked_by_run (drop 1 ws)
unfolding asked
asked_run [] a few first is = absurd (none_some a first)
asked_run (x ∷ ws) a few first is =
    let command : bytes_eq x (codes "run") ≡ true = ap (λ z. bytes_eq z (codes "run")) (some_is x a first) ∙ is in
    ap (λ t. if t then asked_by (x ∷ ws) else None) few ∙ ap (λ t. if t then asked_by_run ws else None) command

-- too many words
pub asked_many : (ws : List (List ℕ)) → nat_le (length ws) 10000 ≡ false → asked ws ≡ None
unfolding asked
asked_many ws many = ap (λ t. if t then asked_by ws else None) many

abbrev nothing : Option Request
nothing = None

none_either : (t : Bool) → (if t then nothing else nothing) ≡ nothing
none_either true = refl
none_either false = refl

-- no words
pub asked_nothing : (ws : List (List ℕ)) → length ws ≡ 0 → asked ws ≡ None
unfolding asked
asked_nothing [] none = refl
asked_nothing (x ∷ ws) none = absurd (omega arith)

-- another word stands first
pub asked_other : (ws : List (List ℕ)) (a : List ℕ) → slice_get ws 0 ≡ Some a → bytes_eq a (codes "run") ≡ false → asked ws ≡ None
unfolding asked
asked_other [] a first is = absurd (none_some a first)
asked_other (x ∷ ws) a first is =
    let command : bytes_eq x (codes "run") ≡ false = ap (λ z. bytes_eq z (codes "run")) (some_is x a first) ∙ is in
    ap (λ t. if nat_le (length (x ∷ ws)) 10000 then (if t then asked_by_run ws else None) else None) command ∙ none_either (nat_le (length (x ∷ ws)) 10000)

-- ---- the files are no more than the words

given_files : (t : Bool) (most : ℕ) (ws files : List (List ℕ)) (n : ℕ) → (if t then Some (asked_for ws most) else None) ≡ Some (asked_for files n) → ws ≡ files
given_files true most ws files n is = ap (λ r. r.files) (some_is (asked_for ws most) (asked_for files n) is)
given_files false most ws files n is = absurd (none_some (asked_for files n) is)

numbered_files : (o : Option ℕ) (ws files : List (List ℕ)) (most : ℕ) → with_number o ws ≡ Some (asked_for files most) → ws ≡ files
numbered_files None ws files most is = absurd (none_some (asked_for files most) is)
numbered_files (Some n) ws files most is = given_files (are_files ws) n ws files most is

run_files : (ws files : List (List ℕ)) (most : ℕ) → asked_by_run ws ≡ Some (asked_for files most) → length files ≤ length ws
run_files [] files most is = let same = ap length (numbered_files (Some 100000000) [] files most is) in omega arith
run_files (x ∷ []) files most is = let same = ap length (numbered_files (Some 100000000) (x ∷ []) files most is) in omega arith
run_files (x ∷ y ∷ ws) files most is = by_option (bytes_eq x (codes "-n")) is
  where
    by_option : (t : Bool) → (if t then with_number (number_of y) ws else with_number (Some 100000000) (x ∷ y ∷ ws)) ≡ Some (asked_for files most) → length files ≤ length (x ∷ y ∷ ws)
    by_option true is = let same = ap length (numbered_files (number_of y) ws files most is) in omega arith
    by_option false is = let same = ap length (numbered_files (Some 100000000) (x ∷ y ∷ ws) files most is) in omega arith

words_files : (ws files : List (List ℕ)) (most : ℕ) → asked_by ws ≡ Some (asked_for files most) → length files ≤ length ws
words_files [] files most is = absurd (none_some (asked_for files most) is)
words_files (x ∷ ws) files most is = by_command (bytes_eq x (codes "run")) is
  where
    by_command : (t : Bool) → (if t then asked_by_run ws else None) ≡ Some (asked_for files most) → length files ≤ length (x ∷ ws)
    by_command true is = let few = run_files ws files most is in omega arith
    by_command false is = absurd (none_some (asked_for files most) is)

within : (n most : ℕ) → nat_le n most ≡ true → n ≤ most
within n most is = grind (arith, nat_tests)

-- words that ask for files are at most 10,000, and so are the files
pub few_files : (ws files : List (List ℕ)) (most : ℕ) → asked ws ≡ Some (asked_for files most) → length files ≤ 10000
unfolding asked
few_files ws files most is = by_length (nat_le (length ws) 10000) refl is
  where
    by_length : (t : Bool) → nat_le (length ws) 10000 ≡ t → (if t then asked_by ws else None) ≡ Some (asked_for files most) → length files ≤ 10000
    by_length true few is = let below = within (length ws) 10000 few in let less = words_files ws files most is in omega arith
    by_length false few is = absurd (none_some (asked_for files most) is)

-- the files that words ask for
pub files_are : (ws files : List (List ℕ)) (most : ℕ) → asked ws ≡ Some (asked_for files most) → files_asked ws ≡ files
files_are ws files most is = rw is refl
