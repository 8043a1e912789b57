use Rattle.std.proofs.Common.{rules, ◌≡◌, ◌+◌, ◌<◌, List, ℕ, [], ◌∷◌, ◌++◌, Bor, drop, length, map, slice_index_or, not, true, false, sym, ap, ◌∙◌, arith}
use Rattle.std.proofs.lemmas.List.{map-append, drop_more, drop_all}
use Rattle.c_scope.proofs.NamesDiffer.{among, among_keys, left_differ, apart_none, past_new, past_second}
use Rattle.c_scope.proofs.names.first_again.Goals as goal

-- the name at that place of a list
abbrev name_at : List (Bor (List ℕ)) → ℕ → Bor (List ℕ)
name_at xs i = slice_index_or xs i (record { ref_ptr = (0, 0); now = [] })

pub returns-then-not-branch : goal.returns-then-not-branch
returns-then-not-branch c =
    let xs : List (Bor (List ℕ)) = c.args.names.now in
    let i : ℕ = c.loop-at.at in
    let x : Bor (List ℕ) = name_at xs i in
    let lt : i < length xs = omega arith in
    let rest : List (List ℕ) = map (λ n. n.now) (drop (i + 1) xs) in
    let seen : List (List ℕ) = map (λ n. n.now) c.loop-at.seen.keys in
    let had : among x.now seen ≡ true = among_keys x c.loop-at.seen.keys ∙ search rules in
    let here : drop i xs ≡ x ∷ drop (i + 1) xs = drop_more xs i (record { ref_ptr = (0, 0); now = [] }) lt in
    record { told = sym (ap not (c.loop-at.invariant ∙ ap (λ ns. left_differ seen (map (λ n. n.now) ns)) here ∙ past_second seen x.now rest had)) }

pub loop-at-preserved : goal.loop-at-preserved
loop-at-preserved c =
    let xs : List (Bor (List ℕ)) = c.args.names.now in
    let i : ℕ = c.loop-at.at in
    let x : Bor (List ℕ) = name_at xs i in
    let lt : i < length xs = omega arith in
    let rest : List (List ℕ) = map (λ n. n.now) (drop (i + 1) xs) in
    let seen : List (List ℕ) = map (λ n. n.now) c.loop-at.seen.keys in
    let new : among x.now seen ≡ false = among_keys x c.loop-at.seen.keys ∙ search rules in
    let keys : c.loop-at.seen.keys ++ x ∷ [] ≡ c.insert.new.self.keys = search rules in
    let here : drop i xs ≡ x ∷ drop (i + 1) xs = drop_more xs i (record { ref_ptr = (0, 0); now = [] }) lt in
    c.loop-at.invariant ∙ ap (λ ns. left_differ seen (map (λ n. n.now) ns)) here ∙ past_new seen x.now rest new ∙
    ap (λ ns. left_differ ns rest) (sym (map-append (λ n. n.now) c.loop-at.seen.keys (x ∷ [])) ∙ ap (map (λ n. n.now)) keys)

pub returns : goal.returns
returns c =
    let none : drop c.loop-at.at c.args.names.now ≡ [] = drop_all c.loop-at.at c.args.names.now (omega arith) in
    record { told = sym (ap not (c.loop-at.invariant ∙ ap (λ ns. left_differ (map (λ n. n.now) c.loop-at.seen.keys) (map (λ n. n.now) ns)) none ∙ apart_none (map (λ n. n.now) c.loop-at.seen.keys))) }
