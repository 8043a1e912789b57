-- The state behind some statements says which blocks they are, and whether they can go on to a text.
use Rattle.std.proofs.Common.{◌≡◌, ℕ, ◌+◌, ◌≤◌, List, [], ◌∷◌, ◌++◌, Bool, true, false, cond, Option, Some, None, refl, sym, ap, subst, ◌∙◌, arith, Result, Ok, Err, append_assoc, inl, inr}
use Rattle.std.specs.Prelude.{nat_le, map}
use Rattle.std.specs.List.{flat_map}
use Rattle.std.proofs.lemmas.Bool.{leb-true}
use Rattle.std.proofs.lemmas.List.{append-nil, map-append}
use Rattle.std.proofs.lemmas.Grind.{flat_map-append}
use Rattle.asm_item.specs.declared.model.DefGroup.{DefGroup}
use Rattle.asm_item.specs.declared.model.Item.{Item}
use Rattle.asm_item.specs.declared.model.Item.TheVariants as items
use Rattle.asm_item.specs.Groups.{Part}
use Rattle.asm_item.specs.Normal.{files, files_in}
use Rattle.asm_read.specs.Stmts.{Stmt, item, begin, part, end, wrong}
use Rattle.asm_read.specs.Reading.{At, rank, empty_group, with_part, Open, State, start, is_file, with_item, item_step, part_step, step_by, step_outside, step_within, step, goes, steps, finish_by, finish, text_stmts, reading}
use Rattle.asm_read.specs.Grammar.{Block, single, group, block_stmts, with_parts, block_item, InOrder, AreInOrder, IsText, Begins, stmts, Leaves}
use Rattle.asm_read.proofs.Holds.{Holds}
use Rattle.asm_read.proofs.TextSteps.{most, file_one, file_none, behind_blocks, text_steps, behind_done, behind_closed}

-- ---- one part more

next_of : ℕ → List Part → ℕ
next_of from [] = from
next_of from (p ∷ ps) = next_of (rank p + 1) ps

abbrev snoc : {A : Type 0} → List A → A → List A
snoc xs x = xs ++ (x ∷ [])

order_more : (from : ℕ) (ps : List Part) (p : Part) → InOrder from ps → next_of from ps ≤ rank p → InOrder from (snoc ps p)
unfolding next_of
order_more from [] p h le = (le, tt)
order_more from (q ∷ ps) p h le = (h.0, order_more (rank q + 1) ps p h.1 le)

next_more : (from : ℕ) (ps : List Part) (p : Part) → next_of from (snoc ps p) ≡ rank p + 1
unfolding next_of
next_more from [] p = refl
next_more from (q ∷ ps) p = next_more (rank q + 1) ps p

with_more : (g : DefGroup) (ps : List Part) (p : Part) → with_parts g (snoc ps p) ≡ with_part (with_parts g ps) p
with_more g [] p = refl
with_more g (q ∷ ps) p = with_more (with_part g q) ps p

-- ---- one block more

ordered_more : (bs : List Block) (b : Block) → AreInOrder bs → AreInOrder (b ∷ []) → AreInOrder (snoc bs b)
ordered_more [] b h g = g
ordered_more (single i ∷ bs) b h g = ordered_more bs b h g
ordered_more (group k ps ∷ bs) b h g = (h.0, ordered_more bs b h.1 g)

stmts_more : (bs : List Block) (b : Block) → flat_map block_stmts (snoc bs b) ≡ flat_map block_stmts bs ++ block_stmts b
stmts_more bs b = flat_map-append block_stmts bs (b ∷ []) ∙ ap (λ l. flat_map block_stmts bs ++ l) (append-nil (block_stmts b))

items_more : (bs : List Block) (b : Block) (found : List Item) → found ≡ map block_item bs → snoc found (block_item b) ≡ map block_item (snoc bs b)
items_more bs b found e = ap (λ l. snoc l (block_item b)) e ∙ sym (map-append block_item bs (b ∷ []))

files_more : (xs : List Item) (i : Item) → files (snoc xs i) ≡ files xs + files_in i
files_more [] i = omega arith
files_more (x ∷ xs) i = let e = files_more xs i in omega arith

-- ---- the shape of what was read

abbrev at : ℕ → Stmt → At
at n s = record { line = n; stmt = s }

stmts_append : (xs ys : List At) → stmts (xs ++ ys) ≡ stmts xs ++ stmts ys
stmts_append xs ys = map-append (λ a. a.stmt) xs ys

-- the statements of the group that is open
record OpenTail (o : Open) (tail : List At) : Type 0 where
  pub name : List ℕ
  pub parts : List Part
  pub more : List At
  pub tail_is : tail ≡ at o.line (begin name) ∷ more
  pub more_is : stmts more ≡ map part parts
  pub ordered : InOrder 0 parts
  pub group_is : o.group ≡ with_parts (empty_group name) parts
  pub next_is : o.next ≡ next_of 0 parts

abbrev IsTail : Option Open → List At → Type 0
IsTail None tail = tail ≡ []
IsTail (Some o) tail = OpenTail o tail

-- whole blocks, and then an open group or nothing
record Shape (st : State) (ats : List At) : Type 0 where
  pub blocks : List Block
  pub ordered : AreInOrder blocks
  pub done_is : st.done ≡ map block_item blocks
  pub few : files st.done ≡ most st.filed
  pub front : List At
  pub tail : List At
  pub ats_are : ats ≡ front ++ tail
  pub front_is : stmts front ≡ flat_map block_stmts blocks
  pub tail_is : IsTail st.group tail

few_more : (st : State) (i : Item) → files st.done ≡ most st.filed → (is_file i ≡ true → st.filed ≡ false) → files (snoc st.done i) ≡ most (cond (is_file i) true st.filed)
few_more st i few first = by (is_file i) refl
  where
    by : (b : Bool) → is_file i ≡ b → files (snoc st.done i) ≡ most (cond b true st.filed)
    by true e = let m : most st.filed ≡ 0 = ap most (first e) in let one = file_one i e in let more = files_more st.done i in let f = few in omega arith
    by false e = let none = file_none i e in let more = files_more st.done i in let f = few in omega arith

abbrev Shaped : List At → ℕ → Stmt → State → Type 0
Shaped ats n s t = Shape t (snoc ats (at n s))

-- a block is closed
closed : (st : State) (ats : List At) (n : ℕ) (s : Stmt) (h : Shape st ats) (b : Block) → AreInOrder (b ∷ []) → (is_file (block_item b) ≡ true → st.filed ≡ false) → stmts (snoc h.tail (at n s)) ≡ block_stmts b → Shape (with_item st (block_item b)) (snoc ats (at n s))
closed st ats n s h b hb first ht = record {
  blocks = snoc h.blocks b;
  ordered = ordered_more h.blocks b h.ordered hb;
  done_is = items_more h.blocks b st.done h.done_is;
  few = few_more st (block_item b) h.few first;
  front = snoc ats (at n s);
  tail = [];
  ats_are = sym (append-nil (snoc ats (at n s)));
  front_is = ap (λ l. stmts (snoc l (at n s))) h.ats_are ∙ ap stmts (append_assoc h.front h.tail (at n s ∷ [])) ∙ stmts_append h.front (snoc h.tail (at n s)) ∙ ap (λ l. l ++ stmts (snoc h.tail (at n s))) h.front_is ∙ ap (λ l. flat_map block_stmts h.blocks ++ l) ht ∙ sym (stmts_more h.blocks b);
  tail_is = refl;
}

item_shape : (st : State) (ats : List At) (n : ℕ) (i : Item) (h : Shape st ats) → h.tail ≡ [] → Holds (Shaped ats n (item i)) (item_step st i)
item_shape st ats n i h none = by (is_file i) st.filed refl refl
  where
    added : (is_file i ≡ true → st.filed ≡ false) → Shape (with_item st i) (snoc ats (at n (item i)))
    added first = closed st ats n (item i) h (single i) tt first (ap (λ l. stmts (snoc l (at n (item i)))) none)

    by : (b c : Bool) → is_file i ≡ b → st.filed ≡ c → Holds (Shaped ats n (item i)) (cond b (cond c None (Some (with_item st i))) (Some (with_item st i)))
    by true true e f = tt
    by true false e f = added (λ z. f)
    by false c e f = added (λ z. absurd cc)

begun : (k : List ℕ) (n : ℕ) → OpenTail record { line = n; group = empty_group k; next = 0 } (at n (begin k) ∷ [])
unfolding next_of
begun k n = record { name = k; parts = []; more = []; tail_is = refl; more_is = refl; ordered = tt; group_is = refl; next_is = refl }

outside_shape : (st : State) (ats : List At) (n : ℕ) (s : Stmt) (h : Shape st ats) → h.tail ≡ [] → Holds (Shaped ats n s) (step_outside st n s)
outside_shape st ats n (item i) h none = item_shape st ats n i h none
outside_shape st ats n (begin k) h none = record {
  blocks = h.blocks;
  ordered = h.ordered;
  done_is = h.done_is;
  few = h.few;
  front = h.front;
  tail = at n (begin k) ∷ [];
  ats_are = ap (λ l. snoc l (at n (begin k))) (h.ats_are ∙ ap (λ l. h.front ++ l) none ∙ append-nil h.front);
  front_is = h.front_is;
  tail_is = begun k n;
}
outside_shape st ats n (part p) h none = tt
outside_shape st ats n end h none = tt
outside_shape st ats n wrong h none = tt

abbrev parted : Open → Part → Open
parted o p = record { line = o.line; group = with_part o.group p; next = rank p + 1 }

longer : (o : Open) (tail : List At) (n : ℕ) (p : Part) → OpenTail o tail → nat_le o.next (rank p) ≡ true → OpenTail (parted o p) (snoc tail (at n (part p)))
longer o tail n p t e = record {
  name = t.name;
  parts = snoc t.parts p;
  more = snoc t.more (at n (part p));
  tail_is = ap (λ l. snoc l (at n (part p))) t.tail_is;
  more_is = stmts_append t.more (at n (part p) ∷ []) ∙ ap (λ l. snoc l (part p)) t.more_is ∙ sym (map-append part t.parts (p ∷ []));
  ordered = order_more 0 t.parts p t.ordered (subst (λ x. x ≤ rank p) t.next_is (leb-true o.next (rank p) e));
  group_is = ap (λ g. with_part g p) t.group_is ∙ sym (with_more (empty_group t.name) t.parts p);
  next_is = sym (next_more 0 t.parts p);
}

part_shape : (st : State) (ats : List At) (n : ℕ) (o : Open) (p : Part) (h : Shape st ats) → OpenTail o h.tail → Holds (Shaped ats n (part p)) (part_step st o p)
part_shape st ats n o p h t = by (nat_le o.next (rank p)) refl
  where
    by : (b : Bool) → nat_le o.next (rank p) ≡ b → Holds (Shaped ats n (part p)) (cond b (Some (record st { group = Some (parted o p) })) None)
    by true e = record {
      blocks = h.blocks;
      ordered = h.ordered;
      done_is = h.done_is;
      few = h.few;
      front = h.front;
      tail = snoc h.tail (at n (part p));
      ats_are = ap (λ l. snoc l (at n (part p))) h.ats_are ∙ append_assoc h.front h.tail (at n (part p) ∷ []);
      front_is = h.front_is;
      tail_is = longer o h.tail n p t e;
    }
    by false e = tt

end_shape : (st : State) (ats : List At) (n : ℕ) (o : Open) (h : Shape st ats) → OpenTail o h.tail → Shape (with_item st (items.Def o.group)) (snoc ats (at n end))
end_shape st ats n o h t =
    let whole : stmts (snoc h.tail (at n end)) ≡ block_stmts (group t.name t.parts) =
    ap (λ l. stmts (snoc l (at n end))) t.tail_is ∙ ap (λ l. begin t.name ∷ l) (stmts_append t.more (at n end ∷ []) ∙ ap (λ l. snoc l end) t.more_is) in
    subst (λ g. Shape (with_item st (items.Def g)) (snoc ats (at n end))) (sym t.group_is)
    (closed st ats n end h (group t.name t.parts) (t.ordered, tt) (λ e. absurd cc) whole)

within_shape : (st : State) (ats : List At) (n : ℕ) (o : Open) (s : Stmt) (h : Shape st ats) → OpenTail o h.tail → Holds (Shaped ats n s) (step_within st o s)
within_shape st ats n o (item i) h t = tt
within_shape st ats n o (begin k) h t = tt
within_shape st ats n o (part p) h t = part_shape st ats n o p h t
within_shape st ats n o end h t = end_shape st ats n o h t
within_shape st ats n o wrong h t = tt

by_shape : (st : State) (ats : List At) (o : Option Open) (n : ℕ) (s : Stmt) (h : Shape st ats) → IsTail o h.tail → Holds (Shaped ats n s) (step_by st o n s)
by_shape st ats None n s h t = outside_shape st ats n s h t
by_shape st ats (Some o) n s h t = within_shape st ats n o s h t

step_shape : (st : State) (ats : List At) (a : At) → Shape st ats → Holds (Shaped ats a.line a.stmt) (step st a)
step_shape st ats a h = by_shape st ats st.group a.line a.stmt h h.tail_is

start_shape : Shape start []
start_shape = record { blocks = []; ordered = tt; done_is = refl; few = refl; front = []; tail = []; ats_are = refl; front_is = refl; tail_is = refl }

-- ---- from statement to statement

-- the statements before one that can't stand there
record Stops (st : State) (read ats : List At) (n : ℕ) : Type 0 where
  pub before : List At
  pub at : At
  pub after : List At
  pub reached : State
  pub parts_are : ats ≡ before ++ (at ∷ after)
  pub line_is : n ≡ at.line
  pub leads : steps st before ≡ Ok reached
  pub shape : Shape reached (read ++ before)
  pub stays : step reached at ≡ None

abbrev Ran : State → List At → List At → Result State ℕ → Type 0
Ran st read ats (Ok t) = Shape t (read ++ ats)
Ran st read ats (Err n) = Stops st read ats n

ran : (ats : List At) (st : State) (read : List At) → Shape st read → Ran st read ats (steps st ats)
ran [] st read h = subst (Shape st) (sym (append-nil read)) h
ran (a ∷ ats) st read h = by (step st a) refl (step_shape st read a h) (λ t g. ran ats t (snoc read a) g)
  where
    further : (t : State) (r : Result State ℕ) → step st a ≡ Some t → Ran t (snoc read a) ats r → Ran st read (a ∷ ats) r
    further t (Ok u) e g = subst (Shape u) (append_assoc read (a ∷ []) ats) g
    further t (Err n) e g = record {
      before = a ∷ g.before;
      at = g.at;
      after = g.after;
      reached = g.reached;
      parts_are = ap (λ l. a ∷ l) g.parts_are;
      line_is = g.line_is;
      leads = ap (λ o. goes a.line o (λ u. steps u g.before)) e ∙ g.leads;
      shape = subst (Shape g.reached) (append_assoc read (a ∷ []) g.before) g.shape;
      stays = g.stays;
    }

    by : (o : Option State) → step st a ≡ o → Holds (Shaped read a.line a.stmt) o → ((t : State) → Shape t (snoc read a) → Ran t (snoc read a) ats (steps t ats)) → Ran st read (a ∷ ats) (goes a.line o (λ t. steps t ats))
    by None e g f = record { before = []; at = a; after = ats; reached = st; parts_are = refl; line_is = refl; leads = refl; shape = subst (Shape st) (sym (append-nil read)) h; stays = e }
    by (Some t) e g f = further t (steps t ats) e (f t g)

-- ---- texts

below_two : (b : Bool) (n : ℕ) → n ≡ most b → n ≤ 1
below_two true n e = omega arith
below_two false n e = omega arith

text_of : (st : State) (ats : List At) (h : Shape st ats) → h.tail ≡ [] → IsText (stmts ats) st.done
text_of st ats h none = record {
  blocks = h.blocks;
  ordered = h.ordered;
  stmts_are = ap stmts (h.ats_are ∙ ap (λ l. h.front ++ l) none ∙ append-nil h.front) ∙ h.front_is;
  items_are = h.done_is;
  one_file = below_two st.filed (files st.done) h.few;
}

-- what was read can go on: by .endef where a group is open
can_begin : (st : State) (ats : List At) → Shape st ats → Begins (stmts ats)
can_begin st ats h = by st.group h.tail_is
  where
    ended : (o : Open) → Shape (with_item st (items.Def o.group)) (snoc ats (at 0 end)) → Begins (stmts ats)
    ended o g = record {
      more = end ∷ [];
      found = snoc st.done (items.Def o.group);
      text = subst (λ l. IsText l (snoc st.done (items.Def o.group))) (stmts_append ats (at 0 end ∷ [])) (text_of (with_item st (items.Def o.group)) (snoc ats (at 0 end)) g g.tail_is);
    }

    by : (o : Option Open) → IsTail o h.tail → Begins (stmts ats)
    by None t = record { more = []; found = st.done; text = subst (λ l. IsText l st.done) (sym (append-nil (stmts ats))) (text_of st ats h t) }
    by (Some o) t = ended o (end_shape st ats 0 o h t)

-- steps go on from where they came to
steps_on : (before ats : List At) (st t : State) → steps st before ≡ Ok t → steps st (before ++ ats) ≡ steps t ats
steps_on [] ats st t e = ap (λ (u : State). steps u ats) (let same : st ≡ t = cc in same)
steps_on (a ∷ before) ats st t e = by (step st a) e (λ u. steps_on before ats u t)
  where
    by : (o : Option State) → goes a.line o (λ u. steps u before) ≡ Ok t → ((u : State) → steps u before ≡ Ok t → steps u (before ++ ats) ≡ steps t ats) → goes a.line o (λ u. steps u (before ++ ats)) ≡ steps t ats
    by None e f = absurd cc
    by (Some u) e f = f u e

-- some lines for statements
abbrev lined : List Stmt → List At
lined ss = map (λ s. at 0 s) ss

stmts_lined : (ss : List Stmt) → stmts (lined ss) ≡ ss
stmts_lined [] = refl
stmts_lined (s ∷ ss) = ap (λ l. s ∷ l) (stmts_lined ss)

-- a text leads from the start to its items
text_leads : (ats : List At) (found : List Item) (t : IsText (stmts ats) found) → steps start ats ≡ Ok (behind_blocks start t.blocks)
text_leads ats found t =
    let one : files (map block_item t.blocks) ≤ 1 = subst (λ l. files l ≤ 1) t.items_are t.one_file in
    text_steps t.blocks ats start t.stmts_are t.ordered refl (omega arith)

no_further : (before : List At) (a : At) (reached : State) → steps start before ≡ Ok reached → step reached a ≡ None → ¬ Begins (stmts before ++ (a.stmt ∷ []))
no_further before a reached leads stays b =
    let rest : List At = a ∷ lined b.more in
    let same : (stmts before ++ (a.stmt ∷ [])) ++ b.more ≡ stmts (before ++ rest) =
    append_assoc (stmts before) (a.stmt ∷ []) b.more ∙ ap (λ l. stmts before ++ (a.stmt ∷ l)) (sym (stmts_lined b.more)) ∙ sym (stmts_append before rest) in
    let text : IsText (stmts (before ++ rest)) b.found = subst (λ l. IsText l b.found) same b.text in
    let e1 : steps start (before ++ rest) ≡ Ok (behind_blocks start text.blocks) = text_leads (before ++ rest) b.found text in
    let e2 : steps start (before ++ rest) ≡ steps reached rest = steps_on before rest start reached leads in
    let e3 : steps reached rest ≡ Err a.line = ap (λ o. goes a.line o (λ t. steps t (lined b.more))) stays in
    absurd (apart (behind_blocks start text.blocks) a.line (sym e1 ∙ e2 ∙ e3))
  where
    apart : (st : State) (n : ℕ) → Ok st ≡ Err n → ⊥
    apart st n e = cc

-- ---- what reading answers

pub reads_text : (bytes : List ℕ) (found : List Item) → reading bytes ≡ Ok found → IsText (stmts (text_stmts bytes)) found
reads_text bytes found e = by (steps start (text_stmts bytes)) (ran (text_stmts bytes) start [] start_shape) e
  where
    closed_by : (st : State) (o : Option Open) (h : Shape st (text_stmts bytes)) → IsTail o h.tail → finish_by st.done o ≡ Ok found → IsText (stmts (text_stmts bytes)) found
    closed_by st None h t f = subst (IsText (stmts (text_stmts bytes))) (the_items st.done found (Ok st.done) refl f) (text_of st (text_stmts bytes) h t)
      where
        the_items : (xs ys : List Item) (r : Result (List Item) ℕ) → r ≡ Ok xs → r ≡ Ok ys → xs ≡ ys
        the_items xs ys r e f = cc
    closed_by st (Some o) h t f = absurd cc

    by : (r : Result State ℕ) → Ran start [] (text_stmts bytes) r → finish r ≡ Ok found → IsText (stmts (text_stmts bytes)) found
    by (Ok st) g f = closed_by st st.group g g.tail_is f
    by (Err n) g f = absurd cc

pub text_is_read : (bytes : List ℕ) (found : List Item) → IsText (stmts (text_stmts bytes)) found → reading bytes ≡ Ok found
text_is_read bytes found t =
    ap finish (text_leads (text_stmts bytes) found t)
    ∙ ap (finish_by (behind_blocks start t.blocks).done) (behind_closed t.blocks start refl)
    ∙ ap Ok (behind_done t.blocks start ∙ sym t.items_are)

pub leaves : (bytes : List ℕ) (n : ℕ) → reading bytes ≡ Err n → Leaves (text_stmts bytes) n
leaves bytes n e = by (steps start (text_stmts bytes)) (ran (text_stmts bytes) start [] start_shape) e
  where
    unclosed : (st : State) (o : Option Open) (h : Shape st (text_stmts bytes)) → IsTail o h.tail → finish_by st.done o ≡ Err n → Leaves (text_stmts bytes) n
    unclosed st None h t f = absurd cc
    unclosed st (Some o) h t f = inr record {
      before = h.front;
      at = at o.line (begin t.name);
      after = t.more;
      name = t.name;
      parts = t.parts;
      parts_are = h.ats_are ∙ ap (λ l. h.front ++ l) t.tail_is;
      line_is = cc;
      begins = refl;
      follow = t.more_is;
      can = can_begin st (text_stmts bytes) h;
    }

    by : (r : Result State ℕ) → Ran start [] (text_stmts bytes) r → finish r ≡ Err n → Leaves (text_stmts bytes) n
    by (Ok st) g f = unclosed st st.group g g.tail_is f
    by (Err m) g f = inl record {
      before = g.before;
      at = g.at;
      after = g.after;
      parts_are = g.parts_are;
      line_is = (let same : m ≡ n = cc in sym same) ∙ g.line_is;
      can = can_begin g.reached g.before g.shape;
      cannot = no_further g.before g.at g.reached g.leads g.stays;
    }
