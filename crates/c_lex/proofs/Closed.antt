-- Characters, texts and comments: what is read is how they are written, and where nothing is read they aren't closed.
use Rattle.std.proofs.Common.{◌≡◌, ℕ, zero, suc, ◌+◌, ◌<◌, ◌≤◌, ◌⊎◌, inl, inr, List, [], ◌∷◌, ◌++◌, length, map, drop, Option, Some, None, Bool, true, false, refl, sym, ap, ◌∙◌, subst, arith, append_assoc}
use Rattle.std.specs.Prelude.{nat_eq, ◌&&◌}
use Rattle.std.proofs.lemmas.Bool.{and_parts, eqb-true}
use Rattle.std.proofs.lemmas.List.{append-nil, length-append}
use Rattle.c_type.specs.Names.{pick}
use Rattle.c_lex.specs.Bytes.{begins}
use Rattle.c_lex.specs.Pieces.{Item, plain, code, item_bytes, item_value, items_bytes, IsItem, AreItems, IsOpen}
use Rattle.c_lex.specs.Pieces as p
use Rattle.c_lex.specs.Reading.{eat, item, chr, text, text_by, comment, ◌>>=◌}
use Rattle.c_lex.proofs.Texts.{text_done, text_next}
use Rattle.c_lex.proofs.Quotes.{ItemAt, item_is, item_at, item_read}

abbrev first_or : ℕ → Option (ℕ × List ℕ) → ℕ
first_or d None = d
first_or d (Some x) = x.0

abbrev firsts_or : List ℕ → Option (List ℕ × List ℕ) → List ℕ
firsts_or d None = d
firsts_or d (Some x) = x.0

abbrev rest_or : {A : Type 0} → List ℕ → Option (A × List ℕ) → List ℕ
rest_or d None = d
rest_or d (Some x) = x.1

pub eat_here : (m : ℕ) (ts after : List ℕ) → eat m ts ≡ Some after → ts ≡ m ∷ after
eat_here m [] after e = cc
eat_here m (b ∷ bs) after e = here (nat_eq b m) refl e
  where
    here : (t : Bool) → nat_eq b m ≡ t → pick t (Some bs) None ≡ Some after → b ∷ bs ≡ m ∷ after
    here true q f = let c : b ≡ m = eqb-true b m q in cc
    here false q f = cc

chr_by : Option (ℕ × List ℕ) → Option (ℕ × List ℕ)
chr_by o = o >>= λ x. eat 39 x.1 >>= λ after. Some (x.0, after)

chr_step : (ts : List ℕ) (v : ℕ) (rest : List ℕ) → item 39 ts ≡ Some (v, rest) → chr ts ≡ (eat 39 rest >>= λ after. Some (v, after))
unfolding chr
chr_step ts v rest e = ap (λ o. o >>= λ x. eat 39 x.1 >>= λ after. Some (x.0, after)) e

pub chr_is : (i : Item) (after : List ℕ) → IsItem 39 i (39 ∷ after) → chr (item_bytes i ++ 39 ∷ after) ≡ Some (item_value i, after)
chr_is i after h = chr_step (item_bytes i ++ 39 ∷ after) (item_value i) (39 ∷ after) (item_is 39 i (39 ∷ after) h)

-- A character stands at the front, behind its first mark.
pub record ChrAt (ts : List ℕ) (v : ℕ) (after : List ℕ) : Type 0 where
  pub i : Item
  pub is : IsItem 39 i (39 ∷ after)
  pub bytes_are : ts ≡ item_bytes i ++ 39 ∷ after
  pub value_is : v ≡ item_value i

chr_none : (ts : List ℕ) → item 39 ts ≡ None → chr ts ≡ None
unfolding chr
chr_none ts e = ap (λ o. o >>= λ x. eat 39 x.1 >>= λ after. Some (x.0, after)) e

chr_end : (ts : List ℕ) (v : ℕ) (after : List ℕ) (x : ItemAt 39 ts) (o : Option (List ℕ)) → eat 39 x.after ≡ o → ◌>>=◌ {B = ℕ × List ℕ} o (λ rest. Some (item_value x.i, rest)) ≡ Some (v, after) → ChrAt ts v after
chr_end ts v after x None e f = cc
chr_end ts v after x (Some rest) e f =
    let same : rest ≡ after = ap (λ y. rest_or {A = ℕ} rest y) f in
    let is : x.after ≡ 39 ∷ after = eat_here 39 x.after rest e ∙ ap (λ r. 39 ∷ r) same in
    record { i = x.i; is = subst (λ r. IsItem 39 x.i r) is x.is; bytes_are = x.bytes_are ∙ ap (λ r. item_bytes x.i ++ r) is; value_is = sym (ap (λ y. first_or v y) f) }

chr_cases : (ts : List ℕ) (v : ℕ) (after : List ℕ) → (ItemAt 39 ts ⊎ (item 39 ts ≡ None)) → chr ts ≡ Some (v, after) → ChrAt ts v after
chr_cases ts v after (inl x) e = chr_end ts v after x (eat 39 x.after) refl (sym (chr_step ts (item_value x.i) x.after (item_read 39 ts x)) ∙ e)
chr_cases ts v after (inr n) e = absurd (let f : chr ts ≡ None = chr_none ts n in cc)

pub chr_at : (ts : List ℕ) (v : ℕ) (after : List ℕ) → chr ts ≡ Some (v, after) → ChrAt ts v after
chr_at ts v after e = chr_cases ts v after (item_at 39 ts) e

pub never_chr : (ts : List ℕ) → chr ts ≡ None → (i : Item) (after : List ℕ) → IsItem 39 i (39 ∷ after) → ts ≡ item_bytes i ++ 39 ∷ after → ⊥
never_chr ts e i after h b = let f : chr (item_bytes i ++ 39 ∷ after) ≡ Some (item_value i, after) = chr_is i after h in let g : chr ts ≡ chr (item_bytes i ++ 39 ∷ after) = ap chr b in cc

-- no item begins with the mark that closes
not_close : (i : Item) (after : List ℕ) → IsItem 34 i after → eat 34 (item_bytes i ++ after) ≡ None
not_close (plain b) after h = ap (λ t. pick t (Some after) None) h.2
not_close (p.escape b) after h = refl
not_close (code ds) after h = refl

pub text_is : (n : ℕ) (bs : List ℕ) (is : List Item) (after : List ℕ) → AreItems 34 is (34 ∷ after) → length is < n → text n bs (items_bytes is ++ 34 ∷ after) ≡ Some (bs ++ map item_value is, after)
text_is zero bs is after h lt = absurd (omega arith)
text_is (suc n) bs [] after h lt = text_done (suc n) n bs (34 ∷ after) after refl refl ∙ ap (λ xs. Some (xs, after)) (sym (append-nil bs))
text_is (suc n) bs (i ∷ is) after h lt =
    ap (λ ts. text (suc n) bs ts) (append_assoc (item_bytes i) (items_bytes is) (34 ∷ after))
    ∙ text_next (suc n) n bs (item_bytes i ++ (items_bytes is ++ 34 ∷ after)) (items_bytes is ++ 34 ∷ after) (item_value i) refl
    (sym (not_close i (items_bytes is ++ 34 ∷ after) h.0)) (sym (item_is 34 i (items_bytes is ++ 34 ∷ after) h.0))
    ∙ text_is n (bs ++ item_value i ∷ []) is after h.1 (omega arith)
    ∙ ap (λ xs. Some (xs, after)) (append_assoc bs (item_value i ∷ []) (map item_value is))

item_long : (i : Item) → 1 ≤ length (item_bytes i)
item_long (plain b) = omega arith
item_long (p.escape b) = omega arith
item_long (code ds) = omega arith

pub items_long : (is : List Item) → length is ≤ length (items_bytes is)
items_long [] = omega arith
items_long (i ∷ is) =
    let a : 1 ≤ length (item_bytes i) = item_long i in
    let b : length is ≤ length (items_bytes is) = items_long is in
    let e : length (item_bytes i ++ items_bytes is) ≡ length (item_bytes i) + length (items_bytes is) = length-append (item_bytes i) (items_bytes is) in
    omega arith

pub never_text : (ts : List ℕ) → text (length ts + 1) [] ts ≡ None → (is : List Item) (after : List ℕ) → AreItems 34 is (34 ∷ after) → ts ≡ items_bytes is ++ 34 ∷ after → ⊥
never_text ts e is after h b =
    let a : length is ≤ length (items_bytes is) = items_long is in
    let l : length (items_bytes is ++ 34 ∷ after) ≡ length (items_bytes is) + suc (length after) = length-append (items_bytes is) (34 ∷ after) in
    let m : length ts ≡ length (items_bytes is ++ 34 ∷ after) = ap length b in
    let f : text (length ts + 1) [] (items_bytes is ++ 34 ∷ after) ≡ Some (map item_value is, after) = text_is (length ts + 1) [] is after h (omega arith) in
    let g : text (length ts + 1) [] ts ≡ text (length ts + 1) [] (items_bytes is ++ 34 ∷ after) = ap (λ xs. text (length ts + 1) [] xs) b in
    cc

-- A text stands at the front, behind its first mark, after these bytes of it.
pub record TextAt (bs ts vs after : List ℕ) : Type 0 where
  pub is : List Item
  pub are : AreItems 34 is (34 ∷ after)
  pub bytes_are : ts ≡ items_bytes is ++ 34 ∷ after
  pub values_are : vs ≡ bs ++ map item_value is

text_zero : (bs ts : List ℕ) → text 0 bs ts ≡ None
unfolding text
text_zero bs ts = refl

text_stuck : (n : ℕ) (bs ts : List ℕ) → eat 34 ts ≡ None → item 34 ts ≡ None → text (suc n) bs ts ≡ None
unfolding text
text_stuck n bs ts e f = ap (λ o. text_by (text n) bs ts o) e ∙ ap (λ o. o >>= λ x. text n (bs ++ x.0 ∷ []) x.1) f

text_more : (bs ts vs after : List ℕ) (x : ItemAt 34 ts) → TextAt (bs ++ item_value x.i ∷ []) x.after vs after → TextAt bs ts vs after
text_more bs ts vs after x r = record {
  is = x.i ∷ r.is;
  are = (subst (λ ys. IsItem 34 x.i ys) r.bytes_are x.is, r.are);
  bytes_are = x.bytes_are ∙ ap (λ ys. item_bytes x.i ++ ys) r.bytes_are ∙ sym (append_assoc (item_bytes x.i) (items_bytes r.is) (34 ∷ after));
  values_are = r.values_are ∙ append_assoc bs (item_value x.i ∷ []) (map item_value r.is);
}

pub text_at : (n : ℕ) (bs ts vs after : List ℕ) → text n bs ts ≡ Some (vs, after) → TextAt bs ts vs after
text_at zero bs ts vs after e = absurd (let f : text 0 bs ts ≡ None = text_zero bs ts in cc)
text_at (suc n) bs ts vs after e = text_cases n bs ts vs after (text_at n) (eat 34 ts) refl (item_at 34 ts) e
  where
    text_cases : (n : ℕ) (bs ts vs after : List ℕ) → ((bs ts vs after : List ℕ) → text n bs ts ≡ Some (vs, after) → TextAt bs ts vs after)
        → (o : Option (List ℕ)) → eat 34 ts ≡ o → (ItemAt 34 ts ⊎ (item 34 ts ≡ None)) → text (suc n) bs ts ≡ Some (vs, after) → TextAt bs ts vs after
    text_cases n bs ts vs after more (Some rest) e x f =
        let g : text (suc n) bs ts ≡ Some (bs, rest) = text_done (suc n) n bs ts rest refl (sym e) in
        let both : Some (bs, rest) ≡ Some (vs, after) = sym g ∙ f in
        let same : rest ≡ after = ap (λ y. rest_or {A = List ℕ} rest y) both in
        record { is = []; are = tt; bytes_are = eat_here 34 ts rest e ∙ ap (λ r. 34 ∷ r) same; values_are = sym (ap (λ y. firsts_or bs y) both) ∙ sym (append-nil bs) }
    text_cases n bs ts vs after more None e (inl x) f =
        text_more bs ts vs after x (more (bs ++ item_value x.i ∷ []) x.after vs after (sym (text_next (suc n) n bs ts x.after (item_value x.i) refl (sym e) (sym (item_read 34 ts x))) ∙ f))
    text_cases n bs ts vs after more None e (inr none) f = absurd (let g : text (suc n) bs ts ≡ None = text_stuck n bs ts e none in cc)

-- A comment stands at the front, behind its first mark.
pub record CommentAt (ts after : List ℕ) : Type 0 where
  pub inside : List ℕ
  pub open_is : IsOpen inside
  pub bytes_are : ts ≡ inside ++ 42 ∷ 47 ∷ after

open_nil : IsOpen []
open_nil [] c e = cc
open_nil (x ∷ xs) c e = cc

-- whether a comment closes here
abbrev pub closes : ℕ → List ℕ → Bool
closes b bs = nat_eq b 42 && begins (λ c. nat_eq c 47) bs

closes_here : (b : ℕ) (bs : List ℕ) → closes b bs ≡ true → b ∷ bs ≡ 42 ∷ 47 ∷ drop 1 bs
closes_here b [] e = absurd (let f = (and_parts (nat_eq b 42) false e).1 in cc)
closes_here b (c ∷ cs) e =
    let q = and_parts (nat_eq b 42) (nat_eq c 47) e in
    let f : b ≡ 42 = eqb-true b 42 q.0 in
    let g : c ≡ 47 = eqb-true c 47 q.1 in
    cc

open_more : (b : ℕ) (bs tail : List ℕ) → closes b (bs ++ tail) ≡ false → IsOpen bs → IsOpen (b ∷ bs)
open_more b bs tail e o [] c f =
    let g : b ≡ 42 = cc in
    let h : bs ≡ 47 ∷ c = cc in
    let k : closes b (bs ++ tail) ≡ true = ap (λ x. closes x (bs ++ tail)) g ∙ ap (λ x. closes 42 (x ++ tail)) h in
    cc
open_more b bs tail e o (x ∷ xs) c f = let h : bs ≡ xs ++ 42 ∷ 47 ∷ c = cc in o xs c h

comment_by : (b : ℕ) (bs after : List ℕ) (t : Bool) → closes b bs ≡ t → pick t (Some (drop 1 bs)) (comment bs) ≡ Some after → (comment bs ≡ Some after → CommentAt bs after) → CommentAt (b ∷ bs) after
comment_by b bs after true e f more = record { inside = []; open_is = open_nil; bytes_are = closes_here b bs e ∙ ap (λ r. 42 ∷ 47 ∷ r) (let h : drop 1 bs ≡ after = cc in h) }
comment_by b bs after false e f more =
    let r = more f in
    record { inside = b ∷ r.inside; open_is = open_more b r.inside (42 ∷ 47 ∷ after) (subst (λ x. closes b x ≡ false) r.bytes_are e) r.open_is; bytes_are = ap (λ x. b ∷ x) r.bytes_are }

pub comment_at : (ts after : List ℕ) → comment ts ≡ Some after → CommentAt ts after
comment_at [] after e = cc
comment_at (b ∷ bs) after e = comment_by b bs after (closes b bs) refl e (comment_at bs after)

never_by : (b : ℕ) (bs : List ℕ) (t : Bool) → closes b bs ≡ t → pick t (Some (drop 1 bs)) (comment bs) ≡ None → (comment bs ≡ None → IsOpen bs) → IsOpen (b ∷ bs)
never_by b bs true e f more = cc
never_by b bs false e f more = open_more b bs [] (subst (λ x. closes b x ≡ false) (sym (append-nil bs)) e) (more f)

pub never_comment : (ts : List ℕ) → comment ts ≡ None → IsOpen ts
never_comment [] e = open_nil
never_comment (b ∷ bs) e = never_by b bs (closes b bs) refl e (never_comment bs)
