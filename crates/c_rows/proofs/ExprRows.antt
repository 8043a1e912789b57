-- Worked expressions: the tree that each of these texts spells.
use Rattle.std.proofs.Common.{[], ◌∷◌, true, false, refl, lit≤, lit<, codes}
use Rattle.c_type.specs.Names.{Name}
use Rattle.c_type.specs.declared.Kind.TheVariants as kinds
use Rattle.c_type.specs.declared.TagKind.TheVariants.{Struct, Enum}
use Rattle.c_lex.specs.Tokens as k
use Rattle.c_tree.specs.declared.expr.AssignOp.TheVariants as a
use Rattle.c_tree.specs.declared.expr.BinaryOp.TheVariants as b
use Rattle.c_tree.specs.declared.expr.UnaryOp.TheVariants as u
use Rattle.c_tree.specs.declared.expr.StepOp.TheVariants as s
use Rattle.c_tree.specs.TreeExpr as t
use Rattle.c_grammar.specs.Words.{Unsigned, Char, Long, Int, Void, tok, mark, word}
use Rattle.c_grammar.specs.WrittenType.{word_part, tag_part, name_part}
use Rattle.c_grammar.specs.WrittenExpr as w
use Rattle.c_grammar.specs.Reads.{Spells}

abbrev n_a : Name
n_a = codes "a"

abbrev n_b : Name
n_b = codes "b"

abbrev n_c : Name
n_c = codes "c"

abbrev n_d : Name
n_d = codes "d"

abbrev n_e : Name
n_e = codes "e"

abbrev n_f : Name
n_f = codes "f"

abbrev n_g : Name
n_g = codes "g"

abbrev n_h : Name
n_h = codes "h"

abbrev n_i : Name
n_i = codes "i"

abbrev n_j : Name
n_j = codes "j"

abbrev n_k : Name
n_k = codes "k"

abbrev n_l : Name
n_l = codes "l"

abbrev n_m : Name
n_m = codes "m"

abbrev n_n : Name
n_n = codes "n"

abbrev n_p : Name
n_p = codes "p"

abbrev n_s : Name
n_s = codes "s"

abbrev n_t : Name
n_t = codes "t"

abbrev n_x : Name
n_x = codes "x"

-- `a = b = c`: an assignment groups to the right
to_the_right : Spells [] 1
    (t.assign 1 a.Set (t.name 1 n_a) (t.assign 1 a.Set (t.name 1 n_b) (t.name 1 n_c)))
    ((tok 1 (k.name n_a)) ∷ (mark 1 32) ∷ (tok 1 (k.name n_b)) ∷ (mark 1 32) ∷ (tok 1 (k.name n_c)) ∷ []) []
to_the_right = record {
  written = w.assign (w.name 1 n_a) 1 a.Set (w.assign (w.name 1 n_b) 1 a.Set (w.name 1 n_c));
  levelled = (lit≤ tt, (lit≤ tt, lit≤ tt, refl, (lit≤ tt, lit≤ tt, refl, refl)));
  plain_is = refl;
  tokens = refl;
}

-- `a - b - c`: the other operators group to the left
to_the_left : Spells [] 1
    (t.binary 1 b.Sub (t.binary 1 b.Sub (t.name 1 n_a) (t.name 1 n_b)) (t.name 1 n_c))
    ((tok 1 (k.name n_a)) ∷ (mark 1 34) ∷ (tok 1 (k.name n_b)) ∷ (mark 1 34) ∷ (tok 1 (k.name n_c)) ∷ []) []
to_the_left = record {
  written = w.binary (w.binary (w.name 1 n_a) 1 b.Sub (w.name 1 n_b)) 1 b.Sub (w.name 1 n_c);
  levelled = (lit≤ tt, (lit≤ tt, lit< tt, (lit≤ tt, lit< tt, refl, refl), refl));
  plain_is = refl;
  tokens = refl;
}

-- `* p ++`: a suffix binds tighter than a prefix
step_of_a_pointer : Spells [] 1
    (t.unary 1 u.Deref (t.post 1 s.Inc (t.name 1 n_p)))
    ((mark 1 35) ∷ (tok 1 (k.name n_p)) ∷ (mark 1 2) ∷ []) []
step_of_a_pointer = record {
  written = w.unary 1 u.Deref (w.post (w.name 1 n_p) 1 s.Inc);
  levelled = (lit≤ tt, (lit≤ tt, (lit≤ tt, refl)));
  plain_is = refl;
  tokens = refl;
}

-- `- ++ a`: prefixes group to the right
step_before : Spells [] 1
    (t.unary 1 u.Neg (t.unary 1 u.Inc (t.name 1 n_a)))
    ((mark 1 34) ∷ (mark 1 2) ∷ (tok 1 (k.name n_a)) ∷ []) []
step_before = record {
  written = w.unary 1 u.Neg (w.unary 1 u.Inc (w.name 1 n_a));
  levelled = (lit≤ tt, (lit≤ tt, (lit≤ tt, refl)));
  plain_is = refl;
  tokens = refl;
}

-- `sizeof ( x ) + 1`: without a typedef x, brackets round an expression
size_of_a_variable : Spells [] 1
    (t.binary 1 b.Add (t.size_of 1 (t.name 1 n_x)) (t.int 1 1 false))
    ((word 1 17) ∷ (mark 1 21) ∷ (tok 1 (k.name n_x)) ∷ (mark 1 22) ∷ (mark 1 33) ∷ (tok 1 (k.int 1 false)) ∷ []) []
size_of_a_variable = record {
  written = w.binary (w.size_of 1 (w.bracket 1 (w.name 1 n_x) 1)) 1 b.Add (w.int 1 1 false);
  levelled = (lit≤ tt, (lit≤ tt, lit< tt, (refl, lit≤ tt, refl), tt));
  plain_is = refl;
  tokens = refl;
}

-- `sizeof ( t ) + 1`: with a typedef t, brackets of the `sizeof`
size_of_a_typedef : Spells (n_t ∷ []) 1
    (t.binary 1 b.Add (t.size_of_type 1 (record { line = 1; types = t.named n_t; stars = 0 })) (t.int 1 1 false))
    ((word 1 17) ∷ (mark 1 21) ∷ (tok 1 (k.name n_t)) ∷ (mark 1 22) ∷ (mark 1 33) ∷ (tok 1 (k.int 1 false)) ∷ []) []
size_of_a_typedef = record {
  written = w.binary (w.size_of_type 1 1 (record { parts = (name_part 1 n_t) ∷ []; types = t.named n_t; stars = [] }) 1) 1 b.Add (w.int 1 1 false);
  levelled = (lit≤ tt, (lit≤ tt, lit< tt, (refl, (refl, tt)), tt));
  plain_is = refl;
  tokens = refl;
}

-- `sizeof ( x ) ++`: the operand of `sizeof` has suffixes
size_of_a_step : Spells [] 1
    (t.size_of 1 (t.post 1 s.Inc (t.name 1 n_x)))
    ((word 1 17) ∷ (mark 1 21) ∷ (tok 1 (k.name n_x)) ∷ (mark 1 22) ∷ (mark 1 2) ∷ []) []
size_of_a_step = record {
  written = w.size_of 1 (w.post (w.bracket 1 (w.name 1 n_x) 1) 1 s.Inc);
  levelled = (lit≤ tt, (refl, lit≤ tt, (lit≤ tt, refl)));
  plain_is = refl;
  tokens = refl;
}

-- `sizeof ( int ) * p`: `sizeof` takes the brackets behind it
size_and_product : Spells [] 1
    (t.binary 1 b.Mul (t.size_of_type 1 (record { line = 1; types = t.num kinds.Int; stars = 0 })) (t.name 1 n_p))
    ((word 1 17) ∷ (mark 1 21) ∷ (word 1 12) ∷ (mark 1 22) ∷ (mark 1 35) ∷ (tok 1 (k.name n_p)) ∷ []) []
size_and_product = record {
  written = w.binary (w.size_of_type 1 1 (record { parts = (word_part 1 Int) ∷ []; types = t.num kinds.Int; stars = [] }) 1) 1 b.Mul (w.name 1 n_p);
  levelled = (lit≤ tt, (lit≤ tt, lit< tt, (refl, (tt, tt)), refl));
  plain_is = refl;
  tokens = refl;
}

-- `( t ) * p`: without a typedef t
product : Spells [] 1
    (t.binary 1 b.Mul (t.name 1 n_t) (t.name 1 n_p))
    ((mark 1 21) ∷ (tok 1 (k.name n_t)) ∷ (mark 1 22) ∷ (mark 1 35) ∷ (tok 1 (k.name n_p)) ∷ []) []
product = record {
  written = w.binary (w.bracket 1 (w.name 1 n_t) 1) 1 b.Mul (w.name 1 n_p);
  levelled = (lit≤ tt, (lit≤ tt, lit< tt, refl, refl));
  plain_is = refl;
  tokens = refl;
}

-- `( t ) * p`: with a typedef t
cast_of_a_target : Spells (n_t ∷ []) 1
    (t.cast 1 (record { line = 1; types = t.named n_t; stars = 0 }) (t.unary 1 u.Deref (t.name 1 n_p)))
    ((mark 1 21) ∷ (tok 1 (k.name n_t)) ∷ (mark 1 22) ∷ (mark 1 35) ∷ (tok 1 (k.name n_p)) ∷ []) []
cast_of_a_target = record {
  written = w.cast 1 (record { parts = (name_part 1 n_t) ∷ []; types = t.named n_t; stars = [] }) 1 (w.unary 1 u.Deref (w.name 1 n_p));
  levelled = (lit≤ tt, (lit≤ tt, (refl, (refl, tt)), (lit≤ tt, refl)));
  plain_is = refl;
  tokens = refl;
}

-- `( char ) a + b`: a cast binds tighter than a sum
cast_then_sum : Spells [] 1
    (t.binary 1 b.Add (t.cast 1 (record { line = 1; types = t.num kinds.Char; stars = 0 }) (t.name 1 n_a)) (t.name 1 n_b))
    ((mark 1 21) ∷ (word 1 3) ∷ (mark 1 22) ∷ (tok 1 (k.name n_a)) ∷ (mark 1 33) ∷ (tok 1 (k.name n_b)) ∷ []) []
cast_then_sum = record {
  written = w.binary (w.cast 1 (record { parts = (word_part 1 Char) ∷ []; types = t.num kinds.Char; stars = [] }) 1 (w.name 1 n_a)) 1 b.Add (w.name 1 n_b);
  levelled = (lit≤ tt, (lit≤ tt, lit< tt, (lit≤ tt, (refl, (tt, tt)), refl), refl));
  plain_is = refl;
  tokens = refl;
}

-- `a , b , c`: commas group to the left
commas : Spells [] 1
    (t.comma 1 (t.comma 1 (t.name 1 n_a) (t.name 1 n_b)) (t.name 1 n_c))
    ((tok 1 (k.name n_a)) ∷ (mark 1 28) ∷ (tok 1 (k.name n_b)) ∷ (mark 1 28) ∷ (tok 1 (k.name n_c)) ∷ []) []
commas = record {
  written = w.comma (w.comma (w.name 1 n_a) 1 (w.name 1 n_b)) 1 (w.name 1 n_c);
  levelled = (lit≤ tt, (lit≤ tt, lit≤ tt, (lit≤ tt, lit≤ tt, refl, refl), refl));
  plain_is = refl;
  tokens = refl;
}

-- `f ( a , ( b , c ) )`: a comma between arguments separates them
arguments : Spells [] 1
    (t.call 1 (t.name 1 n_f) (t.more_exprs (t.name 1 n_a) (t.more_exprs (t.comma 1 (t.name 1 n_b) (t.name 1 n_c)) t.no_exprs)))
    ((tok 1 (k.name n_f)) ∷ (mark 1 21) ∷ (tok 1 (k.name n_a)) ∷ (mark 1 28) ∷ (mark 1 21) ∷ (tok 1 (k.name n_b)) ∷ (mark 1 28) ∷ (tok 1 (k.name n_c)) ∷ (mark 1 22) ∷ (mark 1 22) ∷ []) []
arguments = record {
  written = w.call (w.name 1 n_f) 1 (w.more_args (w.name 1 n_a) (w.more_others 1 (w.bracket 1 (w.comma (w.name 1 n_b) 1 (w.name 1 n_c)) 1) w.no_others)) 1;
  levelled = (lit≤ tt, (lit≤ tt, refl, (lit≤ tt, refl, (lit≤ tt, (lit≤ tt, lit≤ tt, refl, refl), tt))));
  plain_is = refl;
  tokens = refl;
}

-- `f ( ) ( a )`: a call of what a call gives
no_arguments : Spells [] 1
    (t.call 1 (t.call 1 (t.name 1 n_f) t.no_exprs) (t.more_exprs (t.name 1 n_a) t.no_exprs))
    ((tok 1 (k.name n_f)) ∷ (mark 1 21) ∷ (mark 1 22) ∷ (mark 1 21) ∷ (tok 1 (k.name n_a)) ∷ (mark 1 22) ∷ []) []
no_arguments = record {
  written = w.call (w.call (w.name 1 n_f) 1 w.no_args 1) 1 (w.more_args (w.name 1 n_a) w.no_others) 1;
  levelled = (lit≤ tt, (lit≤ tt, (lit≤ tt, refl, tt), (lit≤ tt, refl, tt)));
  plain_is = refl;
  tokens = refl;
}

-- `a ? b , c : d ? e : g`: a choice groups to the right
choices : Spells [] 1
    (t.choice 1 (t.name 1 n_a) (t.comma 1 (t.name 1 n_b) (t.name 1 n_c)) (t.choice 1 (t.name 1 n_d) (t.name 1 n_e) (t.name 1 n_g)))
    ((tok 1 (k.name n_a)) ∷ (mark 1 31) ∷ (tok 1 (k.name n_b)) ∷ (mark 1 28) ∷ (tok 1 (k.name n_c)) ∷ (mark 1 30) ∷ (tok 1 (k.name n_d)) ∷ (mark 1 31) ∷ (tok 1 (k.name n_e)) ∷ (mark 1 30) ∷ (tok 1 (k.name n_g)) ∷ []) []
choices = record {
  written = w.choice (w.name 1 n_a) 1 (w.comma (w.name 1 n_b) 1 (w.name 1 n_c)) 1 (w.choice (w.name 1 n_d) 1 (w.name 1 n_e) 1 (w.name 1 n_g));
  levelled = (lit≤ tt, (lit≤ tt, lit≤ tt, refl, (lit≤ tt, lit≤ tt, refl, refl), (lit≤ tt, lit≤ tt, refl, refl, refl)));
  plain_is = refl;
  tokens = refl;
}

-- `a || b && c | d ^ e & g == h < i << j + k * l`: each level of binary operators holds the next one
levels : Spells [] 1
    (t.binary 1 b.Either (t.name 1 n_a) (t.binary 1 b.Both (t.name 1 n_b) (t.binary 1 b.Or (t.name 1 n_c) (t.binary 1 b.Xor (t.name 1 n_d) (t.binary 1 b.And (t.name 1 n_e) (t.binary 1 b.Eq (t.name 1 n_g) (t.binary 1 b.Lt (t.name 1 n_h) (t.binary 1 b.Shl (t.name 1 n_i) (t.binary 1 b.Add (t.name 1 n_j) (t.binary 1 b.Mul (t.name 1 n_k) (t.name 1 n_l)))))))))))
    ((tok 1 (k.name n_a)) ∷ (mark 1 12) ∷ (tok 1 (k.name n_b)) ∷ (mark 1 11) ∷ (tok 1 (k.name n_c)) ∷ (mark 1 39) ∷ (tok 1 (k.name n_d)) ∷ (mark 1 40) ∷ (tok 1 (k.name n_e)) ∷ (mark 1 38) ∷ (tok 1 (k.name n_g)) ∷ (mark 1 9) ∷ (tok 1 (k.name n_h)) ∷ (mark 1 43) ∷ (tok 1 (k.name n_i)) ∷ (mark 1 5) ∷ (tok 1 (k.name n_j)) ∷ (mark 1 33) ∷ (tok 1 (k.name n_k)) ∷ (mark 1 35) ∷ (tok 1 (k.name n_l)) ∷ []) []
levels = record {
  written = w.binary (w.name 1 n_a) 1 b.Either (w.binary (w.name 1 n_b) 1 b.Both (w.binary (w.name 1 n_c) 1 b.Or (w.binary (w.name 1 n_d) 1 b.Xor (w.binary (w.name 1 n_e) 1 b.And (w.binary (w.name 1 n_g) 1 b.Eq (w.binary (w.name 1 n_h) 1 b.Lt (w.binary (w.name 1 n_i) 1 b.Shl (w.binary (w.name 1 n_j) 1 b.Add (w.binary (w.name 1 n_k) 1 b.Mul (w.name 1 n_l))))))))));
  levelled = (lit≤ tt, (lit≤ tt, lit< tt, refl, (lit≤ tt, lit< tt, refl, (lit≤ tt, lit< tt, refl, (lit≤ tt, lit< tt, refl, (lit≤ tt, lit< tt, refl, (lit≤ tt, lit< tt, refl, (lit≤ tt, lit< tt, refl, (lit≤ tt, lit< tt, refl, (lit≤ tt, lit< tt, refl, (lit≤ tt, lit< tt, refl, refl)))))))))));
  plain_is = refl;
  tokens = refl;
}

-- `a * b + c << d < e == g & h ^ i | j && k || l`: and from the tightest on
levels_back : Spells [] 1
    (t.binary 1 b.Either (t.binary 1 b.Both (t.binary 1 b.Or (t.binary 1 b.Xor (t.binary 1 b.And (t.binary 1 b.Eq (t.binary 1 b.Lt (t.binary 1 b.Shl (t.binary 1 b.Add (t.binary 1 b.Mul (t.name 1 n_a) (t.name 1 n_b)) (t.name 1 n_c)) (t.name 1 n_d)) (t.name 1 n_e)) (t.name 1 n_g)) (t.name 1 n_h)) (t.name 1 n_i)) (t.name 1 n_j)) (t.name 1 n_k)) (t.name 1 n_l))
    ((tok 1 (k.name n_a)) ∷ (mark 1 35) ∷ (tok 1 (k.name n_b)) ∷ (mark 1 33) ∷ (tok 1 (k.name n_c)) ∷ (mark 1 5) ∷ (tok 1 (k.name n_d)) ∷ (mark 1 43) ∷ (tok 1 (k.name n_e)) ∷ (mark 1 9) ∷ (tok 1 (k.name n_g)) ∷ (mark 1 38) ∷ (tok 1 (k.name n_h)) ∷ (mark 1 40) ∷ (tok 1 (k.name n_i)) ∷ (mark 1 39) ∷ (tok 1 (k.name n_j)) ∷ (mark 1 11) ∷ (tok 1 (k.name n_k)) ∷ (mark 1 12) ∷ (tok 1 (k.name n_l)) ∷ []) []
levels_back = record {
  written = w.binary (w.binary (w.binary (w.binary (w.binary (w.binary (w.binary (w.binary (w.binary (w.binary (w.name 1 n_a) 1 b.Mul (w.name 1 n_b)) 1 b.Add (w.name 1 n_c)) 1 b.Shl (w.name 1 n_d)) 1 b.Lt (w.name 1 n_e)) 1 b.Eq (w.name 1 n_g)) 1 b.And (w.name 1 n_h)) 1 b.Xor (w.name 1 n_i)) 1 b.Or (w.name 1 n_j)) 1 b.Both (w.name 1 n_k)) 1 b.Either (w.name 1 n_l);
  levelled = (lit≤ tt, (lit≤ tt, lit< tt, (lit≤ tt, lit< tt, (lit≤ tt, lit< tt, (lit≤ tt, lit< tt, (lit≤ tt, lit< tt, (lit≤ tt, lit< tt, (lit≤ tt, lit< tt, (lit≤ tt, lit< tt, (lit≤ tt, lit< tt, (lit≤ tt, lit< tt, refl, refl), refl), refl), refl), refl), refl), refl), refl), refl), refl));
  plain_is = refl;
  tokens = refl;
}

-- `a != b == c , a >= b <= c > d , a >> b << c , a / b % c`: operators of one level group to the left
same_level : Spells [] 1
    (t.comma 1 (t.comma 1 (t.comma 1 (t.binary 1 b.Eq (t.binary 1 b.Ne (t.name 1 n_a) (t.name 1 n_b)) (t.name 1 n_c)) (t.binary 1 b.Gt (t.binary 1 b.Le (t.binary 1 b.Ge (t.name 1 n_a) (t.name 1 n_b)) (t.name 1 n_c)) (t.name 1 n_d))) (t.binary 1 b.Shl (t.binary 1 b.Shr (t.name 1 n_a) (t.name 1 n_b)) (t.name 1 n_c))) (t.binary 1 b.Rem (t.binary 1 b.Div (t.name 1 n_a) (t.name 1 n_b)) (t.name 1 n_c)))
    ((tok 1 (k.name n_a)) ∷ (mark 1 10) ∷ (tok 1 (k.name n_b)) ∷ (mark 1 9) ∷ (tok 1 (k.name n_c)) ∷ (mark 1 28) ∷ (tok 1 (k.name n_a)) ∷ (mark 1 8) ∷ (tok 1 (k.name n_b)) ∷ (mark 1 7) ∷ (tok 1 (k.name n_c)) ∷ (mark 1 44) ∷ (tok 1 (k.name n_d)) ∷ (mark 1 28) ∷ (tok 1 (k.name n_a)) ∷ (mark 1 6) ∷ (tok 1 (k.name n_b)) ∷ (mark 1 5) ∷ (tok 1 (k.name n_c)) ∷ (mark 1 28) ∷ (tok 1 (k.name n_a)) ∷ (mark 1 36) ∷ (tok 1 (k.name n_b)) ∷ (mark 1 37) ∷ (tok 1 (k.name n_c)) ∷ []) []
same_level = record {
  written = w.comma (w.comma (w.comma (w.binary (w.binary (w.name 1 n_a) 1 b.Ne (w.name 1 n_b)) 1 b.Eq (w.name 1 n_c)) 1 (w.binary (w.binary (w.binary (w.name 1 n_a) 1 b.Ge (w.name 1 n_b)) 1 b.Le (w.name 1 n_c)) 1 b.Gt (w.name 1 n_d))) 1 (w.binary (w.binary (w.name 1 n_a) 1 b.Shr (w.name 1 n_b)) 1 b.Shl (w.name 1 n_c))) 1 (w.binary (w.binary (w.name 1 n_a) 1 b.Div (w.name 1 n_b)) 1 b.Rem (w.name 1 n_c));
  levelled = (lit≤ tt, (lit≤ tt, lit≤ tt, (lit≤ tt, lit≤ tt, (lit≤ tt, lit≤ tt, (lit≤ tt, lit< tt, (lit≤ tt, lit< tt, refl, refl), refl), (lit≤ tt, lit< tt, (lit≤ tt, lit< tt, (lit≤ tt, lit< tt, refl, refl), refl), refl)), (lit≤ tt, lit< tt, (lit≤ tt, lit< tt, refl, refl), refl)), (lit≤ tt, lit< tt, (lit≤ tt, lit< tt, refl, refl), refl)));
  plain_is = refl;
  tokens = refl;
}

-- `a += b -= c *= d /= e %= g &= h |= i ^= j <<= k >>= 1`: each assignment
assignments : Spells [] 1
    (t.assign 1 a.Add (t.name 1 n_a) (t.assign 1 a.Sub (t.name 1 n_b) (t.assign 1 a.Mul (t.name 1 n_c) (t.assign 1 a.Div (t.name 1 n_d) (t.assign 1 a.Rem (t.name 1 n_e) (t.assign 1 a.And (t.name 1 n_g) (t.assign 1 a.Or (t.name 1 n_h) (t.assign 1 a.Xor (t.name 1 n_i) (t.assign 1 a.Shl (t.name 1 n_j) (t.assign 1 a.Shr (t.name 1 n_k) (t.int 1 1 false)))))))))))
    ((tok 1 (k.name n_a)) ∷ (mark 1 13) ∷ (tok 1 (k.name n_b)) ∷ (mark 1 14) ∷ (tok 1 (k.name n_c)) ∷ (mark 1 15) ∷ (tok 1 (k.name n_d)) ∷ (mark 1 16) ∷ (tok 1 (k.name n_e)) ∷ (mark 1 17) ∷ (tok 1 (k.name n_g)) ∷ (mark 1 18) ∷ (tok 1 (k.name n_h)) ∷ (mark 1 19) ∷ (tok 1 (k.name n_i)) ∷ (mark 1 20) ∷ (tok 1 (k.name n_j)) ∷ (mark 1 0) ∷ (tok 1 (k.name n_k)) ∷ (mark 1 1) ∷ (tok 1 (k.int 1 false)) ∷ []) []
assignments = record {
  written = w.assign (w.name 1 n_a) 1 a.Add (w.assign (w.name 1 n_b) 1 a.Sub (w.assign (w.name 1 n_c) 1 a.Mul (w.assign (w.name 1 n_d) 1 a.Div (w.assign (w.name 1 n_e) 1 a.Rem (w.assign (w.name 1 n_g) 1 a.And (w.assign (w.name 1 n_h) 1 a.Or (w.assign (w.name 1 n_i) 1 a.Xor (w.assign (w.name 1 n_j) 1 a.Shl (w.assign (w.name 1 n_k) 1 a.Shr (w.int 1 1 false))))))))));
  levelled = (lit≤ tt, (lit≤ tt, lit≤ tt, refl, (lit≤ tt, lit≤ tt, refl, (lit≤ tt, lit≤ tt, refl, (lit≤ tt, lit≤ tt, refl, (lit≤ tt, lit≤ tt, refl, (lit≤ tt, lit≤ tt, refl, (lit≤ tt, lit≤ tt, refl, (lit≤ tt, lit≤ tt, refl, (lit≤ tt, lit≤ tt, refl, (lit≤ tt, lit≤ tt, refl, tt)))))))))));
  plain_is = refl;
  tokens = refl;
}

-- `* & - ! ~ ++ -- a`: each prefix
prefixes : Spells [] 1
    (t.unary 1 u.Deref (t.unary 1 u.Address (t.unary 1 u.Neg (t.unary 1 u.Not (t.unary 1 u.Flip (t.unary 1 u.Inc (t.unary 1 u.Dec (t.name 1 n_a))))))))
    ((mark 1 35) ∷ (mark 1 38) ∷ (mark 1 34) ∷ (mark 1 42) ∷ (mark 1 41) ∷ (mark 1 2) ∷ (mark 1 3) ∷ (tok 1 (k.name n_a)) ∷ []) []
prefixes = record {
  written = w.unary 1 u.Deref (w.unary 1 u.Address (w.unary 1 u.Neg (w.unary 1 u.Not (w.unary 1 u.Flip (w.unary 1 u.Inc (w.unary 1 u.Dec (w.name 1 n_a)))))));
  levelled = (lit≤ tt, (lit≤ tt, (lit≤ tt, (lit≤ tt, (lit≤ tt, (lit≤ tt, (lit≤ tt, (lit≤ tt, refl))))))));
  plain_is = refl;
  tokens = refl;
}

-- `a [ i , j ] . m -> n ( ) ++ --`: each suffix
suffixes : Spells [] 1
    (t.post 1 s.Dec (t.post 1 s.Inc (t.call 1 (t.arrow 1 (t.member 1 (t.index 1 (t.name 1 n_a) (t.comma 1 (t.name 1 n_i) (t.name 1 n_j))) n_m) n_n) t.no_exprs)))
    ((tok 1 (k.name n_a)) ∷ (mark 1 23) ∷ (tok 1 (k.name n_i)) ∷ (mark 1 28) ∷ (tok 1 (k.name n_j)) ∷ (mark 1 24) ∷ (mark 1 27) ∷ (tok 1 (k.name n_m)) ∷ (mark 1 4) ∷ (tok 1 (k.name n_n)) ∷ (mark 1 21) ∷ (mark 1 22) ∷ (mark 1 2) ∷ (mark 1 3) ∷ []) []
suffixes = record {
  written = w.post (w.post (w.call (w.arrow (w.member (w.index (w.name 1 n_a) 1 (w.comma (w.name 1 n_i) 1 (w.name 1 n_j)) 1) 1 1 n_m) 1 1 n_n) 1 w.no_args 1) 1 s.Inc) 1 s.Dec;
  levelled = (lit≤ tt, (lit≤ tt, (lit≤ tt, (lit≤ tt, (refl, lit≤ tt, (refl, lit≤ tt, (lit≤ tt, refl, (lit≤ tt, lit≤ tt, refl, refl)))), tt))));
  plain_is = refl;
  tokens = refl;
}

-- `12L , 7 , 'c' , "hi"`: each literal
literals : Spells [] 1
    (t.comma 1 (t.comma 1 (t.comma 1 (t.int 1 12 true) (t.int 1 7 false)) (t.chr 1 99)) (t.text 1 (104 ∷ 105 ∷ [])))
    ((tok 1 (k.int 12 true)) ∷ (mark 1 28) ∷ (tok 1 (k.int 7 false)) ∷ (mark 1 28) ∷ (tok 1 (k.chr 99)) ∷ (mark 1 28) ∷ (tok 1 (k.text (104 ∷ 105 ∷ []))) ∷ []) []
literals = record {
  written = w.comma (w.comma (w.comma (w.int 1 12 true) 1 (w.int 1 7 false)) 1 (w.chr 1 99)) 1 (w.text 1 (104 ∷ 105 ∷ []));
  levelled = (lit≤ tt, (lit≤ tt, lit≤ tt, (lit≤ tt, lit≤ tt, (lit≤ tt, lit≤ tt, tt, tt), tt), tt));
  plain_is = refl;
  tokens = refl;
}

-- `( int long unsigned * * ) sizeof ( struct s )`: the words of a type in any order, and a tag that has the name of a typedef
types : Spells (n_s ∷ []) 1
    (t.cast 1 (record { line = 1; types = t.num kinds.ULong; stars = 2 }) (t.size_of_type 1 (record { line = 1; types = t.tag (record { line = 1; kind = Struct; name = n_s }); stars = 0 })))
    ((mark 1 21) ∷ (word 1 12) ∷ (word 1 13) ∷ (word 1 22) ∷ (mark 1 35) ∷ (mark 1 35) ∷ (mark 1 22) ∷ (word 1 17) ∷ (mark 1 21) ∷ (word 1 19) ∷ (tok 1 (k.name n_s)) ∷ (mark 1 22) ∷ []) []
types = record {
  written = w.cast 1 (record { parts = (word_part 1 Int) ∷ (word_part 1 Long) ∷ (word_part 1 Unsigned) ∷ []; types = t.num kinds.ULong; stars = 1 ∷ 1 ∷ [] }) 1 (w.size_of_type 1 1 (record { parts = (tag_part 1 Struct 1 n_s) ∷ []; types = t.tag (record { line = 1; kind = Struct; name = n_s }); stars = [] }) 1);
  levelled = (lit≤ tt, (lit≤ tt, (refl, (tt, (tt, (tt, tt)))), (refl, (refl, tt))));
  plain_is = refl;
  tokens = refl;
}

-- `( enum e * ) ( void ) a`: casts of casts
enumeration : Spells [] 1
    (t.cast 1 (record { line = 1; types = t.tag (record { line = 1; kind = Enum; name = n_e }); stars = 1 }) (t.cast 1 (record { line = 1; types = t.void; stars = 0 }) (t.name 1 n_a)))
    ((mark 1 21) ∷ (word 1 8) ∷ (tok 1 (k.name n_e)) ∷ (mark 1 35) ∷ (mark 1 22) ∷ (mark 1 21) ∷ (word 1 23) ∷ (mark 1 22) ∷ (tok 1 (k.name n_a)) ∷ []) []
enumeration = record {
  written = w.cast 1 (record { parts = (tag_part 1 Enum 1 n_e) ∷ []; types = t.tag (record { line = 1; kind = Enum; name = n_e }); stars = 1 ∷ [] }) 1 (w.cast 1 (record { parts = (word_part 1 Void) ∷ []; types = t.void; stars = [] }) 1 (w.name 1 n_a));
  levelled = (lit≤ tt, (lit≤ tt, (refl, (refl, tt)), (lit≤ tt, (refl, (tt, tt)), refl)));
  plain_is = refl;
  tokens = refl;
}

-- `( ( a + b ) ) * c`: brackets have no node
brackets : Spells [] 1
    (t.binary 1 b.Mul (t.binary 1 b.Add (t.name 1 n_a) (t.name 1 n_b)) (t.name 1 n_c))
    ((mark 1 21) ∷ (mark 1 21) ∷ (tok 1 (k.name n_a)) ∷ (mark 1 33) ∷ (tok 1 (k.name n_b)) ∷ (mark 1 22) ∷ (mark 1 22) ∷ (mark 1 35) ∷ (tok 1 (k.name n_c)) ∷ []) []
brackets = record {
  written = w.binary (w.bracket 1 (w.bracket 1 (w.binary (w.name 1 n_a) 1 b.Add (w.name 1 n_b)) 1) 1) 1 b.Mul (w.name 1 n_c);
  levelled = (lit≤ tt, (lit≤ tt, lit< tt, (lit≤ tt, lit< tt, refl, refl), refl));
  plain_is = refl;
  tokens = refl;
}
