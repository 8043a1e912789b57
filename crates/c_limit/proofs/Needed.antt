-- What calls and lists of initialisers need of temporaries.
use Rattle.std.proofs.Common.{◌≡◌, ℕ, suc, ◌+◌, ◌-◌, ◌^◌, max, min, List, true, false, sym, ap, ◌∙◌, Vec, Box, Global, arith}
use Rattle.c_type.specs.declared.CType.{CType}
use Rattle.c_tree.specs.declared.typed_expr.TExpr.{TExpr, Call}
use Rattle.c_tree.specs.declared.typed_stmt.TInit.{TInit, Group}
use Rattle.c_tree.specs.TypedOf.{expr_of, init_of}
use Rattle.c_limit.specs.Temporaries.{temporaries, of_args, of_called, is_by_name, of_init, of_inits, counted}
use Rattle.c_limit.specs.Of.{args_from, inits_from}
use Rattle.c_limit.proofs.Rows.{expr_of-Call, init_of-Group}

-- a call needs what its kind says
call_is : (v : TExpr) (t : CType) (f : Box TExpr Global) (es : Vec TExpr Global) (g : TExpr) (as_ : List TExpr) → v ≡ Call t f es → g ≡ f.value → as_ ≡ es.items
    → temporaries (expr_of v) ≡ of_called (is_by_name (expr_of g)) (temporaries (expr_of g)) (of_args 0 (args_from as_))
call_is v t f es g as_ at first second =
    ap temporaries (ap expr_of at ∙ expr_of-Call t f es)
    ∙ (ap (λ y. of_called (is_by_name (expr_of y)) (temporaries (expr_of y)) (of_args 0 (args_from es.items))) (sym first)
    ∙ ap (λ ys. of_called (is_by_name (expr_of g)) (temporaries (expr_of g)) (of_args 0 (args_from ys))) (sym second))

-- a call by a function's name
pub called_by_name : (v : TExpr) (t : CType) (f : Box TExpr Global) (es : Vec TExpr Global) (g : TExpr) (as_ : List TExpr) (n : ℕ) → v ≡ Call t f es → g ≡ f.value → as_ ≡ es.items
    → is_by_name (expr_of g) ≡ true → n ≡ counted (of_args 0 (args_from as_)) → n ≡ counted (temporaries (expr_of v))
called_by_name v t f es g as_ n at first second named own =
    own ∙ ap counted (sym (call_is v t f es g as_ at first second ∙ ap (λ b. of_called b (temporaries (expr_of g)) (of_args 0 (args_from as_))) named))

-- the numbers of a call through an expression
kept : (x y a b s m : ℕ) → a ≡ counted x → b ≡ counted y → s ≡ min (b + 1) (2 ^ 64 - 1) → m ≡ max a s → m ≡ counted (max x (suc y))
kept x y a b s m p q r w = omega arith

-- a call through an expression, whose value is kept
pub called_through : (v : TExpr) (t : CType) (f : Box TExpr Global) (es : Vec TExpr Global) (g : TExpr) (as_ : List TExpr) (a b s m : ℕ) → v ≡ Call t f es → g ≡ f.value → as_ ≡ es.items
    → is_by_name (expr_of g) ≡ false → a ≡ counted (temporaries (expr_of g)) → b ≡ counted (of_args 0 (args_from as_)) → s ≡ min (b + 1) (2 ^ 64 - 1) → m ≡ max a s
    → m ≡ counted (temporaries (expr_of v))
called_through v t f es g as_ a b s m at first second named own rest more most =
    kept (temporaries (expr_of g)) (of_args 0 (args_from as_)) a b s m own rest more most
    ∙ ap counted (sym (call_is v t f es g as_ at first second ∙ ap (λ c. of_called c (temporaries (expr_of g)) (of_args 0 (args_from as_))) named))

-- a list of initialisers
pub group_needs : (v : TInit) (is : Vec TInit Global) (xs : List TInit) (n : ℕ) → v ≡ Group is → xs ≡ is.items → n ≡ counted (of_inits (inits_from xs)) → n ≡ counted (of_init (init_of v))
group_needs v is xs n at same own =
    own ∙ (ap (λ y. counted (of_inits (inits_from y))) same ∙ ap (λ y. counted (of_init y)) (sym (ap init_of at ∙ init_of-Group is)))
