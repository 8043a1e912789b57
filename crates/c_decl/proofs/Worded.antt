-- One turn of the loop over the words before declarators.
use Rattle.std.proofs.Common.{◌≡◌, ℕ, ◌<◌, ◌≤◌, ◌-◌, ◌+◌, zero, suc, List, [], ◌∷◌, ◌++◌, length, Option, Some, None, Result, Err, refl, ap, arith, sym, ◌∙◌}
use Rattle.c_type.specs.Names.{Name}
use Rattle.c_type.specs.declared.TagKind.{TagKind}
use Rattle.c_lex.specs.Tokens.{Token}
use Rattle.c_tree.specs.TreeExpr.{Expr}
use Rattle.c_tree.specs.TreeDecl.{TagDef}
use Rattle.c_expr.specs.Front.{Read, ◌>>=◌}
use Rattle.c_expr.specs.declared.error.ParseErr.{ParseErr}
use Rattle.c_decl.specs.Answers.{Refuses, Gives}
use Rattle.c_decl.specs.ReadSpecs.{Found, nothing, Word, storage_word, typedef_word, type_part, body_word, with_word, and_word, word, words, body_at, file_words}
use Rattle.c_decl.proofs.Loops as l
use Rattle.c_decl.proofs.Loops.{in_front, with_front}

passes : (v w : Word) (f : Found) → with_word v (and_word f w) ≡ and_word (with_word v f) w
passes (storage_word c) (storage_word d) f = refl
passes (storage_word c) typedef_word f = refl
passes (storage_word c) (type_part p) f = refl
passes (storage_word c) (body_word d) f = refl
passes typedef_word (storage_word d) f = refl
passes typedef_word typedef_word f = let same : suc (f.typedefs + 1) ≡ suc f.typedefs + 1 = omega arith in ap (λ n. record f { typedefs = n }) same
passes typedef_word (type_part p) f = refl
passes typedef_word (body_word d) f = refl
passes (type_part q) (storage_word d) f = refl
passes (type_part q) typedef_word f = refl
passes (type_part q) (type_part p) f = refl
passes (type_part q) (body_word d) f = refl
passes (body_word e) (storage_word d) f = refl
passes (body_word e) typedef_word f = refl
passes (body_word e) (type_part p) f = refl
passes (body_word e) (body_word d) f = refl

first_word : (w : Word) → with_word w nothing ≡ and_word nothing w
first_word (storage_word c) = refl
first_word typedef_word = refl
first_word (type_part p) = refl
first_word (body_word d) = refl

last_word : (ws : List Word) (w : Word) → in_front with_word (ws ++ w ∷ []) nothing ≡ and_word (in_front with_word ws nothing) w
last_word [] w = first_word w
last_word (v ∷ vs) w = ap (with_word v) (last_word vs w) ∙ passes v w (in_front with_word vs nothing)

module _ (defs : List Name) (body : TagKind → ℕ → Option Name → List Token → Read TagDef) where
  -- the words that were taken, with those that are left, are the whole
  abbrev pub Gone : Found → ℕ → List Token → Read Found → Type 0
  Gone f k ts whole = (ws : List Word) × (in_front with_word ws nothing ≡ f) × (with_front with_word ws (words defs body k ts) ≡ whole)

  pub begins : (f : Found) (n : ℕ) (ts : List Token) → f ≡ nothing → Gone f (n - 0) ts (words defs body n ts)
  begins f n ts none = ([], sym none, l.begins with_word (words defs body) n ts)

  goes : (ts next : List Token) (w : Word) (k : ℕ) → word defs body ts ≡ Some (Some w, next) → words defs body (suc k) ts ≡ (words defs body k next >>= λ f. Some (with_word w f.0, f.1))
  unfolding words
  goes ts next w k is = rw is refl

  stops : (ts after : List Token) (k : ℕ) → word defs body ts ≡ Some (None, after) → words defs body (suc k) ts ≡ Some (nothing, after)
  unfolding words
  stops ts after k is = rw is refl

  none_read : (ts : List Token) (k : ℕ) → word defs body ts ≡ None → words defs body (suc k) ts ≡ None
  unfolding words
  none_read ts k is = rw is refl

  none_left : (ts : List Token) → words defs body 0 ts ≡ None
  unfolding words
  none_left ts = refl

  pub goes_on : (n turn : ℕ) (f g : Found) (w : Word) (ts next : List Token) (whole : Read Found) → turn < n → Gone f (n - turn) ts whole → word defs body ts ≡ Some (Some w, next) → g ≡ and_word f w → Gone g (n - (turn + 1)) next whole
  goes_on n turn f g w ts next whole less gone is more = (
    gone.0 ++ w ∷ [],
    last_word gone.0 w ∙ ap (λ h. and_word h w) gone.1 ∙ sym more,
    l.goes_on with_word (words defs body) n turn gone.0 w ts next whole less gone.2 (λ k. goes ts next w k is),
  )

  pub ends : (n turn : ℕ) (f : Found) (ts after : List Token) (whole : Read Found) → turn < n → Gone f (n - turn) ts whole → word defs body ts ≡ Some (None, after) → whole ≡ Some (f, after)
  ends n turn f ts after whole less gone is =
      l.ends with_word (words defs body) n turn gone.0 nothing ts after whole less gone.2 (λ k. stops ts after k is) ∙ ap (λ h. Some (h, after)) gone.1

  pub failed : {X : Type 0} (view : X → Found × List Token) (r : Result X ParseErr) (y e : ParseErr) (n turn : ℕ) (f : Found) (ts : List Token) (whole : Read Found) → r ≡ Err y → y ≡ e
      → turn < n → Gone f (n - turn) ts whole → Refuses e (word defs body ts) → Gives view r whole
  failed view r y e n turn f ts whole is same less gone says =
      l.failed with_word (words defs body) view (word defs body ts) r y e n turn gone.0 ts whole is same less gone.2 says (λ none k. none_read ts k none)

  pub runs_out : (n turn : ℕ) (f : Found) (ts : List Token) (whole : Read Found) → n ≤ turn → Gone f (n - turn) ts whole → whole ≡ None
  runs_out n turn f ts whole all gone = l.runs_out with_word (words defs body) n turn gone.0 ts whole all gone.2 (none_left ts)

-- the words outside of blocks, as the loop takes them
pub whole_words : (defs : List Name) (most : ℕ) (expr : ℕ → List Token → Read Expr) (nested : ℕ) (ts : List Token) (n : ℕ) → n ≡ length ts + 1
    → words defs (body_at defs most expr nested) n ts ≡ file_words defs most expr nested ts
unfolding file_words
whole_words defs most expr zero ts n count = let same : n ≡ suc (length ts) = omega arith in ap (λ j. words defs (body_at defs most expr zero) j ts) same
whole_words defs most expr (suc k) ts n count = let same : n ≡ suc (length ts) = omega arith in ap (λ j. words defs (body_at defs most expr (suc k)) j ts) same
