-- What stands at the front of a list of tokens.
use Rattle.std.specs.Prelude.{ℕ, List, [], ◌∷◌, Bool, false, nat_eq, nat_lt, Option, Some, None}
use Rattle.c_type.specs.Names.{Name, pick}
use Rattle.c_lex.specs.Tokens.{Tok, Token}
use Rattle.c_lex.specs.Tokens as k
use Rattle.c_grammar.specs.WrittenType.{is_typedef}

-- what follows from an option, where it is there
infixl 10 ◌>>=◌
abbrev pub ◌>>=◌ : {A B : Type 0} → Option A → (A → Option B) → Option B
None >>= f = None
(Some x) >>= f = f x

-- the same as a word
abbrev pub along : {A B : Type 0} → Option A → (A → Option B) → Option B
along o f = o >>= f

-- what is read at the front, and the tokens behind it
abbrev pub Read : Type 0 → Type 0
Read A = Option (A × List Token)

-- whether the token is the mark
abbrev pub is_mark : ℕ → Tok → Bool
is_mark m (k.name x) = false
is_mark m (k.int n long) = false
is_mark m (k.chr n) = false
is_mark m (k.text bytes) = false
is_mark m (k.word w) = false
is_mark m (k.mark n) = nat_eq n m

-- whether the token is the word
abbrev pub is_word : ℕ → Tok → Bool
is_word m (k.name x) = false
is_word m (k.int n long) = false
is_word m (k.chr n) = false
is_word m (k.text bytes) = false
is_word m (k.word w) = nat_eq w m
is_word m (k.mark n) = false

-- the tokens behind the mark
abbrev pub eat : ℕ → List Token → Option (List Token)
eat m [] = None
eat m (x ∷ ts) = pick (is_mark m x.kind) (Some ts) None

-- the tokens behind the word
abbrev pub eat_word : ℕ → List Token → Option (List Token)
eat_word w [] = None
eat_word w (x ∷ ts) = pick (is_word w x.kind) (Some ts) None

-- the mark that the token is
abbrev pub mark_of : List Token → Tok → Read ℕ
mark_of ts (k.name x) = None
mark_of ts (k.int n long) = None
mark_of ts (k.chr n) = None
mark_of ts (k.text bytes) = None
mark_of ts (k.word w) = None
mark_of ts (k.mark m) = Some (m, ts)

-- a mark, whichever it is
abbrev pub mark_at : List Token → Read ℕ
mark_at [] = None
mark_at (x ∷ ts) = mark_of ts x.kind

-- the line of the first token
abbrev pub line_at : List Token → ℕ
line_at [] = 0
line_at (x ∷ ts) = x.line

-- the name that the token is
abbrev pub name_of : List Token → Tok → Read Name
name_of ts (k.name x) = Some (x, ts)
name_of ts (k.int n long) = None
name_of ts (k.chr n) = None
name_of ts (k.text bytes) = None
name_of ts (k.word w) = None
name_of ts (k.mark n) = None

-- a name, also one that is a typedef name
abbrev pub any_name : List Token → Read Name
any_name [] = None
any_name (x ∷ ts) = name_of ts x.kind

-- a name that is no typedef name
abbrev pub name_at : List Name → List Token → Read Name
name_at defs ts = any_name ts >>= λ x. pick (is_typedef defs x.0) None (Some x)

-- what is no deeper than the number
abbrev pub grown : {A : Type 0} → (A → ℕ) → ℕ → A → List Token → Read A
grown depth most x ts = pick (nat_lt most (depth x)) None (Some (x, ts))

-- with the tokens behind it
abbrev pub paired : {A : Type 0} → List Token → Option A → Read A
paired ts None = None
paired ts (Some a) = Some (a, ts)

-- what the function gives for the mark that the token is
abbrev pub marked : {A : Type 0} → (ℕ → Option A) → List Token → Tok → Read A
marked f ts (k.name x) = None
marked f ts (k.int n long) = None
marked f ts (k.chr n) = None
marked f ts (k.text bytes) = None
marked f ts (k.word w) = None
marked f ts (k.mark m) = paired ts (f m)

-- what the function gives for the mark at the front
abbrev pub front_mark : {A : Type 0} → (ℕ → Option A) → List Token → Read A
front_mark f [] = None
front_mark f (x ∷ ts) = marked f ts x.kind
