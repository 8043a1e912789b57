-- The numbers in a typed unit count up, part by part; a static that is declared again keeps its number.
use Rattle.std.proofs.Common.{◌≡◌, ℕ, suc, ◌<◌, ◌≤◌, ◌⊎◌, inl, inr, List, [], ◌∷◌, ◌++◌, length, map, Option, Some, None, Bool, true, false, refl, sym, ap, subst, arith}
use Rattle.std.specs.Prelude.{◌&&◌}
use Rattle.c_type.specs.Names.{Name, same_name, pick, or_default}
use Rattle.c_type.specs.Types.{CType, same_type}
use Rattle.c_tree.specs.TExpr as e
use Rattle.c_tree.specs.TExpr.{TExpr, Ref}
use Rattle.c_tree.specs.Bodies.{Auto}
use Rattle.c_tree.specs.Starts.{Start}
use Rattle.c_run.specs.Mentions.{Mention}
use Rattle.c_run.specs.Numbers.{text_numbers, own_numbers, IsFirstSeen}
use Rattle.c_rule.specs.RuleScope.{Env, Entry, Meaning, Alias, Constant, Thing, Function, in_scope, same_bool}
use Rattle.c_rule.specs.RuleTypes.{joined}
use Rattle.c_rule.specs.RuleTags.{in_file}
use Rattle.c_rule.specs.RuleUnit.{is_own, object_again, combined, DeclaresInFile, own_number, next_static}
use Rattle.c_sound.proofs.Counts.{Counts, counts_both}
use Rattle.c_sound.proofs.TextOrder.{texts_both, own_both}
use Rattle.c_sound.proofs.Parts.{Part}
use Rattle.std.proofs.lemmas.List.{map-append}

-- numbers of statics

-- each is the next one, or stood before, from n to m
abbrev pub Seen : ℕ → List ℕ → ℕ → Type 0
Seen n [] m = n ≡ m
Seen n (k ∷ ks) m = ((k < n) × Seen n ks m) ⊎ ((k ≡ n) × Seen (suc n) ks m)

seen_both : (n m l : ℕ) (ks js : List ℕ) → Seen n ks m → Seen m js l → Seen n (ks ++ js) l
seen_both n m l [] js h g = subst (λ i. Seen i js l) (sym h) g
seen_both n m l (k ∷ ks) js (inl h) g = inl (h.0, seen_both n m l ks js h.1 g)
seen_both n m l (k ∷ ks) js (inr h) g = inr (h.0, seen_both (suc n) m l ks js h.1 g)

seen_counts : (n m : ℕ) (ks : List ℕ) → Counts n ks m → Seen n ks m
seen_counts n m [] h = h
seen_counts n m (k ∷ ks) h = inr (h.0, seen_counts (suc n) m ks h.1)

pub first_seen : (n m : ℕ) (ks : List ℕ) → Seen n ks m → IsFirstSeen n ks
first_seen n m [] h = tt
first_seen n m (k ∷ ks) (inl h) = inl (h.0, first_seen n m ks h.1)
first_seen n m (k ∷ ks) (inr h) = inr (h.0, first_seen (suc n) m ks h.1)

seen_more : (n m : ℕ) (ks : List ℕ) → Seen n ks m → n ≤ m
seen_more n m [] h = let q : n ≡ m = h in omega arith
seen_more n m (k ∷ ks) (inl h) = seen_more n m ks h.1
seen_more n m (k ∷ ks) (inr h) = let q = seen_more (suc n) m ks h.1 in omega arith

-- what a name means: a static has a number below n
abbrev pub Below : ℕ → Meaning → Type 0
Below n (Alias t) = Unit {0}
Below n (Constant k) = Unit {0}
Below n (Function s r t) = Unit {0}
Below n (Thing r t) = RefBelow n r
  where
    RefBelow : ℕ → Ref → Type 0
    RefBelow n (e.Local i) = Unit {0}
    RefBelow n (e.Param i) = Unit {0}
    RefBelow n (e.Static k) = k < n
    RefBelow n (e.Ext x) = Unit {0}
    RefBelow n (e.Func k) = Unit {0}
    RefBelow n (e.Outer x) = Unit {0}
    RefBelow n (e.Const k) = Unit {0}

abbrev pub AllBelow : ℕ → List Entry → Type 0
AllBelow n [] = Unit {0}
AllBelow n (x ∷ xs) = Below n x.meaning × AllBelow n xs

below_more : (n k : ℕ) (x : Meaning) → n ≤ k → Below n x → Below k x
below_more n k (Alias t) le h = tt
below_more n k (Constant j) le h = tt
below_more n k (Function s r t) le h = tt
below_more n k (Thing (e.Local i) t) le h = tt
below_more n k (Thing (e.Param i) t) le h = tt
below_more n k (Thing (e.Static j) t) le h = omega arith
below_more n k (Thing (e.Ext x) t) le h = tt
below_more n k (Thing (e.Func j) t) le h = tt
below_more n k (Thing (e.Outer x) t) le h = tt
below_more n k (Thing (e.Const j) t) le h = tt

pub all_below_more : (n k : ℕ) (xs : List Entry) → n ≤ k → AllBelow n xs → AllBelow k xs
all_below_more n k [] le h = tt
all_below_more n k (x ∷ xs) le h = (below_more n k x.meaning le h.0, all_below_more n k xs le h.1)

-- parts at file level

-- Between c and f stand parts with these starts that say this.
pub record FilePart (c f : Env) (ss : List Start) (ms : List Mention) : Type 0 where
  pub starts : Counts c.starts (map (λ (s : Start). s.index) ss) f.starts
  pub texts : Counts (length c.texts) (text_numbers ms) (length f.texts)
  pub statics : AllBelow c.statics c.file → Seen c.statics (own_numbers ms) f.statics × AllBelow f.statics f.file

pub file_both : (c d f : Env) (ss ss' : List Start) (ms ms' : List Mention) → FilePart c d ss ms → FilePart d f ss' ms' → FilePart c f (ss ++ ss') (ms ++ ms')
file_both c d f ss ss' ms ms' h k = record {
  starts = subst (λ z. Counts c.starts z f.starts) (sym (map-append (λ (s : Start). s.index) ss ss')) (counts_both c.starts d.starts f.starts _ _ h.starts k.starts);
  texts = subst (λ z. Counts (length c.texts) z (length f.texts)) (sym (texts_both ms ms')) (counts_both (length c.texts) (length d.texts) (length f.texts) (text_numbers ms) (text_numbers ms') h.texts k.texts);
  statics = λ b.
      let p = h.statics b in
      let q = k.statics p.1 in
      (subst (λ z. Seen c.statics z f.statics) (sym (own_both ms ms')) (seen_both c.statics d.statics f.statics (own_numbers ms) (own_numbers ms') p.0 q.0), q.1);
}

-- a part that leaves the file as it is
pub part_file : (c f : Env) (ss : List Start) (as_ : List Auto) (ms : List Mention) → Part c f ss as_ ms → FilePart c f ss ms
part_file c f ss as_ ms h = record {
  starts = h.starts;
  texts = h.texts;
  statics = λ b.
      let q = seen_counts c.statics f.statics (own_numbers ms) h.statics in
      (q, subst (AllBelow f.statics) (sym h.file) (all_below_more c.statics f.statics c.file (seen_more c.statics f.statics (own_numbers ms) q) b));
}

pub same_file : (c f : Env) → f.starts ≡ c.starts → f.texts ≡ c.texts → f.statics ≡ c.statics → (AllBelow c.statics c.file → AllBelow c.statics f.file) → FilePart c f [] []
same_file c f s t k l = record { starts = sym s; texts = sym (ap length t); statics = λ b. (sym k, subst (λ z. AllBelow z f.file) (sym k) (l b)) }

pub here_file : (c f : Env) → f ≡ c → FilePart c f [] []
here_file c f q = subst (λ z. FilePart c z [] []) (sym q) (same_file c c refl refl refl (λ b. b))

-- what says the same of texts and statics
pub said_file : (c f : Env) (ss : List Start) (ms ns : List Mention) → text_numbers ms ≡ text_numbers ns → own_numbers ms ≡ own_numbers ns → FilePart c f ss ms → FilePart c f ss ns
said_file c f ss ms ns t k h = record {
  starts = h.starts;
  texts = subst (λ z. Counts (length c.texts) z (length f.texts)) t h.texts;
  statics = λ b. let p = h.statics b in (subst (λ z. Seen c.statics z f.statics) k p.0, p.1);
}

-- names

abbrev pub OptionBelow : ℕ → Option Meaning → Type 0
OptionBelow n None = Unit {0}
OptionBelow n (Some x) = Below n x

pub scope_below : (n : ℕ) (x : Name) (es : List Entry) → AllBelow n es → OptionBelow n (in_scope x es)
scope_below n x [] h = tt
scope_below n x (y ∷ ys) h = case_of (same_name x y.name) (scope_below n x ys h.1)
  where
    case_of : (b : Bool) → OptionBelow n (in_scope x ys) → OptionBelow n (pick b (Some y.meaning) (in_scope x ys))
    case_of true g = h.0
    case_of false g = g

meaning_is : (x y : Meaning) → Some x ≡ Some y → x ≡ y
meaning_is x y h = ap (λ (o : Option Meaning). or_default x o) h

-- an object that is declared again keeps what it is bound to
same_bound : (n : ℕ) (q : Ref) (t : CType) (o : Option CType) (x : Meaning) → Below n (Thing q t) → object_again q o ≡ Some x → Below n x
same_bound n q t None x h g = cc
same_bound n (e.Local i) t (Some u) x h g = subst (Below n) (meaning_is (Thing (e.Local i) u) x g) tt
same_bound n (e.Param i) t (Some u) x h g = subst (Below n) (meaning_is (Thing (e.Param i) u) x g) tt
same_bound n (e.Static k) t (Some u) x h g = subst (Below n) (meaning_is (Thing (e.Static k) u) x g) h
same_bound n (e.Ext y) t (Some u) x h g = subst (Below n) (meaning_is (Thing (e.Ext y) u) x g) tt
same_bound n (e.Func k) t (Some u) x h g = subst (Below n) (meaning_is (Thing (e.Func k) u) x g) tt
same_bound n (e.Outer y) t (Some u) x h g = subst (Below n) (meaning_is (Thing (e.Outer y) u) x g) tt
same_bound n (e.Const k) t (Some u) x h g = subst (Below n) (meaning_is (Thing (e.Const k) u) x g) tt

combined_below : (n : ℕ) (old : Option Meaning) (new x : Meaning) → OptionBelow n old → Below n new → combined old new ≡ Some x → Below n x
combined_below n None new x h k g = subst (Below n) (meaning_is new x g) k
combined_below n (Some (Thing q a)) (Thing z b) x h k g = case_of (same_bool (is_own q) (is_own z)) g
  where
    case_of : (p : Bool) → pick p (object_again q (joined a b)) None ≡ Some x → Below n x
    case_of true y = same_bound n q a (joined a b) x h y
    case_of false y = cc
combined_below n (Some (Function s q a)) (Function z w b) x h k g = case_of (same_bool s z && same_type a b) g
  where
    case_of : (p : Bool) → pick p (Some (Function s q a)) None ≡ Some x → Below n x
    case_of true y = subst (Below n) (meaning_is (Function s q a) x y) tt
    case_of false y = cc
combined_below n (Some (Thing q a)) (Alias t) x h k g = cc
combined_below n (Some (Thing q a)) (Constant j) x h k g = cc
combined_below n (Some (Thing q a)) (Function z w b) x h k g = cc
combined_below n (Some (Function s q a)) (Alias t) x h k g = cc
combined_below n (Some (Function s q a)) (Constant j) x h k g = cc
combined_below n (Some (Function s q a)) (Thing z b) x h k g = cc
combined_below n (Some (Alias t)) new x h k g = cc
combined_below n (Some (Constant j)) new x h k g = cc

-- a name that the file declares, bound to no new static
pub declared_part : (c d : Env) (x : Name) (new : Meaning) → ((n : ℕ) → Below n new) → DeclaresInFile c x new d → FilePart c d [] []
declared_part c d x new k (y, g, q) =
    subst (λ z. FilePart c z [] []) (sym q)
    (same_file c (in_file (record { name = x; meaning = y }) c) refl refl refl (λ b. (combined_below c.statics (in_scope x c.file) new y (scope_below c.statics x c.file b) (k c.statics) g, b)))

-- a static: its number stood before or is the next one
pub record Owned (c : Env) (old : Option Meaning) (y : Meaning) : Type 0 where
  pub seen : Seen c.statics (own_number c old ∷ []) (next_static c old)
  pub more : c.statics ≤ next_static c old
  pub below : Below (next_static c old) y

pub owned_by : (c : Env) (old : Option Meaning) (t : CType) (y : Meaning) → OptionBelow c.statics old → combined old (Thing (e.Static (own_number c old)) t) ≡ Some y → Owned c old y
owned_by c None t y h g = record { seen = inr (refl, refl); more = omega arith; below = subst (Below (suc c.statics)) (meaning_is _ y g) (omega arith) }
owned_by c (Some (Thing (e.Static k) a)) t y h g = record { seen = inl (h, refl); more = omega arith; below = same_bound c.statics (e.Static k) a (joined a t) y h g }
owned_by c (Some (Thing (e.Local i) a)) t y h g = cc
owned_by c (Some (Thing (e.Param i) a)) t y h g = cc
owned_by c (Some (Thing (e.Ext x) a)) t y h g = cc
owned_by c (Some (Thing (e.Func k) a)) t y h g = cc
owned_by c (Some (Thing (e.Outer x) a)) t y h g = cc
owned_by c (Some (Thing (e.Const k) a)) t y h g = cc
owned_by c (Some (Function s q a)) t y h g = cc
owned_by c (Some (Alias a)) t y h g = cc
owned_by c (Some (Constant k)) t y h g = cc
