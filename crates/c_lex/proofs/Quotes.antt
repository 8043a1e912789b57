-- Items between quotes: what is read is how they are written.
use Rattle.std.proofs.Common.{◌≡◌, ℕ, zero, suc, ◌+◌, ◌-◌, ◌*◌, ◌%◌, ◌<◌, ◌≤◌, ◌⊎◌, inl, inr, List, [], ◌∷◌, ◌++◌, length, Some, None, Bool, true, false, refl, sym, ap, ◌∙◌, subst, arith}
use Rattle.std.specs.Prelude.{nat_eq, ◌||◌}
use Rattle.std.proofs.lemmas.Bool.{and_from, and_parts, eqb-true}
use Rattle.c_type.specs.Names.{pick}
use Rattle.c_lex.specs.Bytes.{is_between, is_octal, digit_value, value_from, are, begins}
use Rattle.c_lex.specs.Pieces.{Item, plain, code, item_bytes, item_value, items_bytes, IsItem, AreItems, escaped}
use Rattle.c_lex.specs.Pieces as p
use Rattle.c_lex.proofs.Between.{between_is, is_between_of}
use Rattle.c_lex.specs.Reading.{octal_from, octal_by, escape, item}

-- What is left of a text, where the octal digits at its front are taken off, up to k of them.
pub record Digits (k : ℕ) (ts : List ℕ) : Type 0 where
  pub ds : List ℕ
  pub after : List ℕ
  pub bytes_are : ts ≡ ds ++ after
  pub octal : are is_octal ds ≡ true
  pub few : length ds ≤ k
  pub most : (length ds ≡ k) ⊎ (begins is_octal after ≡ false)

digits_more : (k b : ℕ) (bs : List ℕ) → is_octal b ≡ true → Digits k bs → Digits (suc k) (b ∷ bs)
digits_more k b bs e r = record { ds = b ∷ r.ds; after = r.after; bytes_are = ap (λ xs. b ∷ xs) r.bytes_are; octal = and_from (is_octal b) (are is_octal r.ds) e r.octal; few = (let h : length r.ds ≤ k = r.few in omega arith); most = more r.most }
  where
    more : {n m : ℕ} {B : Type 0} → ((n ≡ m) ⊎ B) → (suc n ≡ suc m) ⊎ B
    more (inl e) = inl (ap suc e)
    more (inr b) = inr b

digits_by : (k b : ℕ) (bs : List ℕ) (t : Bool) → is_octal b ≡ t → Digits k bs → Digits (suc k) (b ∷ bs)
digits_by k b bs true e r = digits_more k b bs e r
digits_by k b bs false e r = record { ds = []; after = b ∷ bs; bytes_are = refl; octal = refl; few = omega arith; most = inr e }

pub digits_of : (k : ℕ) (ts : List ℕ) → Digits k ts
digits_of zero ts = record { ds = []; after = ts; bytes_are = refl; octal = refl; few = omega arith; most = inl refl }
digits_of (suc k) [] = record { ds = []; after = []; bytes_are = refl; octal = refl; few = omega arith; most = inr refl }
digits_of (suc k) (b ∷ bs) = digits_by k b bs (is_octal b) refl (digits_of k bs)

same_low : (a b d : ℕ) → a % 256 ≡ b % 256 → (a * 8 + d) % 256 ≡ (b * 8 + d) % 256
same_low a b d e = omega arith

low_value : (a b : ℕ) (ds : List ℕ) → a % 256 ≡ b % 256 → value_from 8 a ds % 256 ≡ value_from 8 b ds % 256
low_value a b [] e = e
low_value a b (d ∷ ds) e = low_value (a * 8 + digit_value d) (b * 8 + digit_value d) ds (same_low a b (digit_value d) e)

octal_value : (b : ℕ) → is_octal b ≡ true → digit_value b ≡ b - 48
octal_value b e =
    let h : 48 ≤ b = (between_is 48 55 b e).0 in
    let g : b ≤ 55 = (between_is 48 55 b e).1 in
    ap (λ t. pick t (b - 48) (pick (is_between 97 102 b) (b - 87) (b - 55))) (is_between_of 48 57 b h (omega arith))

octal_at : (v k b : ℕ) (bs : List ℕ) → is_octal b ≡ true → octal_from (suc k) v (b ∷ bs) ≡ octal_from k ((v * 8 + (b - 48)) % 256) bs
unfolding octal_from
octal_at v k b bs e = ap (λ t. octal_by (octal_from k) v (b ∷ bs) (pick t (Some (b - 48, bs)) None)) e

octal_none : (k v : ℕ) (ts : List ℕ) → begins is_octal ts ≡ false → octal_from k v ts ≡ (v, ts)
unfolding octal_from
octal_none zero v ts e = refl
octal_none (suc k) v [] e = refl
octal_none (suc k) v (b ∷ bs) e = ap (λ t. octal_by (octal_from k) v (b ∷ bs) (pick t (Some (b - 48, bs)) None)) e

octal_zero : (v : ℕ) (ts : List ℕ) → octal_from 0 v ts ≡ (v, ts)
unfolding octal_from
octal_zero v ts = refl

octal_end : (k v : ℕ) (ts : List ℕ) → ((0 ≡ k) ⊎ (begins is_octal ts ≡ false)) → octal_from k v ts ≡ (v, ts)
octal_end k v ts (inl e) = ap (λ n. octal_from n v ts) (sym e) ∙ octal_zero v ts
octal_end k v ts (inr e) = octal_none k v ts e

pub octal_is : (k v : ℕ) (ds after : List ℕ) → v < 256 → are is_octal ds ≡ true → length ds ≤ k → ((length ds ≡ k) ⊎ (begins is_octal after ≡ false)) → octal_from k v (ds ++ after) ≡ (value_from 8 v ds % 256, after)
octal_is k v [] after lt o few most = octal_end k v after most ∙ ap (λ n. (n, after)) (let h : v ≡ v % 256 = omega arith in h)
octal_is zero v (d ∷ ds) after lt o few most = absurd (omega arith)
octal_is (suc k) v (d ∷ ds) after lt o few most =
    let q = and_parts (is_octal d) (are is_octal ds) o in
    octal_at v k d (ds ++ after) q.0
    ∙ octal_is k ((v * 8 + (d - 48)) % 256) ds after (omega arith) q.1 (omega arith) (less most)
    ∙ ap (λ n. (n, after)) (low_value ((v * 8 + (d - 48)) % 256) (v * 8 + digit_value d) ds (let e : digit_value d ≡ d - 48 = octal_value d q.0 in omega arith))
  where
    less : {n m : ℕ} {B : Type 0} → ((suc n ≡ suc m) ⊎ B) → (n ≡ m) ⊎ B
    less (inl e) = inl (omega arith)
    less (inr b) = inr b

escape_code : (d : ℕ) (ds after : List ℕ) → is_octal d ≡ true → escape (d ∷ ds ++ after) ≡ Some (octal_from 3 0 (d ∷ ds ++ after))
unfolding escape
escape_code d ds after e = ap (λ t. pick t (Some (octal_from 3 0 (d ∷ ds ++ after))) (pick (nat_eq d 10) None (Some (escaped d, ds ++ after)))) e

escape_byte : (b : ℕ) (after : List ℕ) → nat_eq b 10 ≡ false → is_octal b ≡ false → escape (b ∷ after) ≡ Some (escaped b, after)
unfolding escape
escape_byte b after e o =
    ap (λ t. pick t (Some (octal_from 3 0 (b ∷ after))) (pick (nat_eq b 10) None (Some (escaped b, after)))) o
    ∙ ap (λ t. pick t None (Some (escaped b, after))) e

item_escape : (close : ℕ) (ts : List ℕ) → item close (92 ∷ ts) ≡ escape ts
unfolding item
item_escape close ts = refl

item_plain : (close b : ℕ) (after : List ℕ) → nat_eq b 92 ≡ false → nat_eq b 10 ≡ false → nat_eq b close ≡ false → item close (b ∷ after) ≡ Some (b, after)
unfolding item
item_plain close b after s n c =
    ap (λ t. pick t (escape after) (pick (nat_eq b 10 || nat_eq b close) None (Some (b, after)))) s
    ∙ ap (λ t. pick (t || nat_eq b close) None (Some (b, after))) n
    ∙ ap (λ t. pick t None (Some (b, after))) c

-- what is read of an item that is written so
pub item_is : (close : ℕ) (i : Item) (after : List ℕ) → IsItem close i after → item close (item_bytes i ++ after) ≡ Some (item_value i, after)
item_is close (plain b) after h = item_plain close b after h.1 h.0 h.2
item_is close (p.escape b) after h = item_escape close (b ∷ after) ∙ escape_byte b after h.0 h.1
item_is close (code []) after h = absurd (let g : 1 ≤ 0 = h.1 in omega arith)
item_is close (code (d ∷ ds)) after h =
    item_escape close (d ∷ ds ++ after) ∙ escape_code d ds after (and_parts (is_octal d) (are is_octal ds) h.0).0
    ∙ ap (λ x. Some x) (octal_is 3 0 (d ∷ ds) after (omega arith) h.0 h.2 h.3)

-- An item stands at the front.
pub record ItemAt (close : ℕ) (ts : List ℕ) : Type 0 where
  pub i : Item
  pub after : List ℕ
  pub is : IsItem close i after
  pub bytes_are : ts ≡ item_bytes i ++ after

code_at : (close b : ℕ) (bs : List ℕ) → is_octal b ≡ true → Digits 2 bs → ItemAt close (92 ∷ b ∷ bs)
code_at close b bs e r = record {
  i = code (b ∷ r.ds);
  after = r.after;
  is = (and_from (is_octal b) (are is_octal r.ds) e r.octal, omega arith, (let h : length r.ds ≤ 2 = r.few in omega arith), most r.most);
  bytes_are = ap (λ xs. 92 ∷ b ∷ xs) r.bytes_are;
}
  where
    most : {n : ℕ} {B : Type 0} → ((n ≡ 2) ⊎ B) → (suc n ≡ 3) ⊎ B
    most (inl e) = inl (ap suc e)
    most (inr x) = inr x

byte_at : (close b : ℕ) (bs : List ℕ) (t : Bool) → nat_eq b 10 ≡ t → is_octal b ≡ false → ItemAt close (92 ∷ b ∷ bs) ⊎ (escape (b ∷ bs) ≡ None)
unfolding escape
byte_at close b bs true e o = inr (ap (λ t. pick t (Some (octal_from 3 0 (b ∷ bs))) (pick (nat_eq b 10) None (Some (escaped b, bs)))) o ∙ ap (λ t. pick t None (Some (escaped b, bs))) e)
byte_at close b bs false e o = inl (record { i = p.escape b; after = bs; is = (e, o); bytes_are = refl })

escape_by : (close b : ℕ) (bs : List ℕ) (t : Bool) → is_octal b ≡ t → ItemAt close (92 ∷ b ∷ bs) ⊎ (escape (b ∷ bs) ≡ None)
escape_by close b bs true e = inl (code_at close b bs e (digits_of 2 bs))
escape_by close b bs false e = byte_at close b bs (nat_eq b 10) refl e

escape_at : (close : ℕ) (ts : List ℕ) → ItemAt close (92 ∷ ts) ⊎ (escape ts ≡ None)
unfolding escape
escape_at close [] = inr refl
escape_at close (b ∷ bs) = escape_by close b bs (is_octal b) refl

behind : (close b : ℕ) (bs : List ℕ) → b ≡ 92 → (ItemAt close (92 ∷ bs) ⊎ (escape bs ≡ None)) → ItemAt close (b ∷ bs) ⊎ (item close (b ∷ bs) ≡ None)
behind close b bs e (inl x) = inl (subst (λ c. ItemAt close (c ∷ bs)) (sym e) x)
behind close b bs e (inr x) = inr (ap (λ c. item close (c ∷ bs)) e ∙ item_escape close bs ∙ x)

plain_by : (close b : ℕ) (bs : List ℕ) (n c : Bool) → nat_eq b 92 ≡ false → nat_eq b 10 ≡ n → nat_eq b close ≡ c → ItemAt close (b ∷ bs) ⊎ (item close (b ∷ bs) ≡ None)
unfolding item
plain_by close b bs true c s n e =
    inr (ap (λ t. pick t (escape bs) (pick (nat_eq b 10 || nat_eq b close) None (Some (b, bs)))) s ∙ ap (λ t. pick (t || nat_eq b close) None (Some (b, bs))) n)
plain_by close b bs false true s n e =
    inr (ap (λ t. pick t (escape bs) (pick (nat_eq b 10 || nat_eq b close) None (Some (b, bs)))) s ∙ ap (λ t. pick (t || nat_eq b close) None (Some (b, bs))) n ∙ ap (λ t. pick t None (Some (b, bs))) e)
plain_by close b bs false false s n e = inl (record { i = plain b; after = bs; is = (n, s, e); bytes_are = refl })

item_by : (close b : ℕ) (bs : List ℕ) (t : Bool) → nat_eq b 92 ≡ t → ItemAt close (b ∷ bs) ⊎ (item close (b ∷ bs) ≡ None)
item_by close b bs true e = behind close b bs (eqb-true b 92 e) (escape_at close bs)
item_by close b bs false e = plain_by close b bs (nat_eq b 10) (nat_eq b close) e refl refl

-- an item stands at the front, or none is read there
pub item_at : (close : ℕ) (ts : List ℕ) → ItemAt close ts ⊎ (item close ts ≡ None)
unfolding item
item_at close [] = inr refl
item_at close (b ∷ bs) = item_by close b bs (nat_eq b 92) refl

pub item_read : (close : ℕ) (ts : List ℕ) (x : ItemAt close ts) → item close ts ≡ Some (item_value x.i, x.after)
item_read close ts x = ap (λ xs. item close xs) x.bytes_are ∙ item_is close x.i x.after x.is
