-- A whole program of the small form runs as the source machine does.
use Rattle.std.proofs.Common.{◌≡◌, ℕ, ◌+◌, ◌*◌, ◌≤◌, List, [], ◌∷◌, Bool, true, false, Some, refl, sym, ap, ◌∙◌, arith, append-nil}
use Rattle.std.specs.Prelude.{if◌then◌else◌, slice_get}
use Rattle.mach_mem.specs.Addresses.{text_start, stack_end}
use Rattle.mach_mem.specs.Space.{Space, IsInitial}
use Rattle.c_tree.specs.Bodies.{BodyAt}
use Rattle.c_run.specs.Context.{Linked}
use Rattle.c_run.specs.Values.{Object, Static, Local, Num}
use Rattle.c_run.specs.State.{Thing, Gave, thing}
use Rattle.c_run.specs.Run.{zero_statics, begin_statics, blank, first_state}
use Rattle.gen_small.specs.Ghost.{M, Prog}
use Rattle.gen_small.specs.Items.{Item, Layout, Stands}
use Rattle.gen_small.specs.Emitted.{width, end_of}
use Rattle.gen_small.specs.Code.{func_code, start_code}
use Rattle.gen_small.specs.Agree.{Agrees}
use Rattle.gen_small.specs.Mains.{IsMain}
use Rattle.gen_small.specs.Laid.{is_label, address}
use Rattle.gen_small.specs.Forms.{stmts_weight}
use Rattle.gen_small.specs.Whole.{whole_code, laid, text_of, layout_of, program_of, IsSmallProgram, WholeEnds, WholeStops}
use Rattle.gen_small.proofs.Emitted.{emitted_stands}
use Rattle.gen_small.proofs.Reach.{stands_split}
use Rattle.gen_small.proofs.Laying.{marked}
use Rattle.gen_small.proofs.Coded.{whole_once, whole_encoded}
use Rattle.gen_small.proofs.Weighed.{forms_small, size, end_is, whole_size}
use Rattle.gen_small.proofs.Plain.{ends_alike, stops_alike}

-- no address of an item is beyond the last one
address_within : (which : Item → Bool) (a : ℕ) (xs : List Item) → address which a xs ≤ a + size xs
address_within which a [] = omega arith
address_within which a (x ∷ xs) = cases (which x) (address_within which (a + width x) xs)
  where
    cases : (b : Bool) → address which (a + width x) xs ≤ a + width x + size xs → (if b then a else address which (a + width x) xs) ≤ a + (width x + size xs)
    cases true h = omega arith
    cases false h = omega arith

pub text_is : (w : Linked) (f : ℕ) (b : BodyAt) → text_of w f b ≡ laid (whole_code w f b)
unfolding text_of
text_is w f b = refl

abbrev nothing : List Thing
nothing = []

-- no objects of static life, nothing to begin
nothing_static : (w : Linked) (input : List ℕ) (k : ℕ) (x : Thing) → w.lasting ≡ [] → slice_get (zero_statics w w.lasting) k ≡ Some x → ⊥
nothing_static w input k x none e = let f : slice_get nothing k ≡ Some x = ap (λ ls. slice_get (zero_statics w ls) k) (sym none) ∙ e in absurd (cc)

begins_at_once : (w : Linked) (input : List ℕ) → w.lasting ≡ [] → first_state w input ≡ Gave (Num 0) (blank w input)
begins_at_once w input none = ap (λ ls. begin_statics w 0 ls (blank w input)) none

module _ (w : Linked) (f limit : ℕ) (b : BodyAt) (is : IsSmallProgram w f b) (enough : 10 * stmts_weight b.func.stmts + 16 ≤ limit) (mem : Space) (init : IsInitial mem (text_of w f b) [] 0) (input : List ℕ) where
  abbrev code : List Item
  code = whole_code w f b

  abbrev p : Prog
  p = program_of limit f (whole_code w f b)

  abbrev l : Layout
  l = layout_of f (whole_code w f b)

  -- the machine before its first instruction
  abbrev first : M
  first =
      record {
        regs = record { eax = 0; ecx = 0; edx = 0; ebx = 0; esp = stack_end; ebp = 0; esi = 0; edi = 0 };
        flags = record { cf = false; zf = false; sf = false; of = false };
        eip = text_start;
        mem = mem;
        input = input;
        output = [];
        turns = 0;
        since = 0;
        made = [];
      }

  small_size : size code ≤ 3145792
  small_size = let h = whole_size w f b is.main in let short = is.main.short in omega arith

  stands_whole : Stands p l f 0 text_start code (end_of text_start code)
  stands_whole =
      emitted_stands p l f 0 code [] text_start (omega arith) (let s = small_size in omega (arith, end_is text_start code)) (sym (append-nil (laid code)))
      (marked p l f code 0 text_start (whole_encoded w f b is.main) (whole_once w f b is.main)
      (record {
        labels = λ n there. refl;
        starts = λ j there. refl;
        begun = λ at low. refl;
        opened = λ at low. refl;
        owned = λ at low. refl;
        small = λ n. (let s = small_size in let h = address_within (is_label n) text_start code in omega arith);
      }))

  split : (c : ℕ) × Stands p l f 0 text_start (start_code f) c × Stands p l f 0 c (func_code record { whole = w; fun = f; body = b }) (end_of text_start code)
  split = stands_split p l f 0 (start_code f) (func_code record { whole = w; fun = f; body = b }) text_start (end_of text_start code) stands_whole

  no_thing : (o : Object) (x : Thing) → thing (blank w input) o ≡ Some x → ⊥
  no_thing (Static k) x e = nothing_static w input k x is.no_statics e
  no_thing (Local serial i) x e = absurd (cc)

  agrees_first : Agrees l w p.text (blank w input) [] first
  agrees_first =
      record {
        cells = λ o x e. absurd (no_thing o x e);
        frames = tt;
        placed = record { sorted = λ o x e. absurd (no_thing o x e); writable = λ o x e. absurd (no_thing o x e); apart = λ o q x y e. absurd (no_thing o x e); off = λ o x e. absurd (no_thing o x e); free = λ o x e. absurd (no_thing o x e) };
        layered = tt;
        ebp_is = refl;
        esp_is = refl;
        stack_is = init.stack_size;
        text_is = init.text_is ∙ text_is w f b;
        input_is = refl;
        output_is = refl;
        turns_is = refl;
        made_is = refl;
      }

  main_is : IsMain w limit f b
  main_is =
      record {
        body_is = is.body_is;
        params_none = is.main.params_none;
        result_is = is.main.result_is;
        ints = is.main.ints;
        plain = is.main.plain;
        small = forms_small _ limit b.func.stmts is.main.small (omega arith);
      }

pub whole_ends : WholeEnds
whole_ends w f limit b is enough mem init input stop fuel status s run_is =
    let c = split w f limit b is enough mem init input in
    ends_alike (p w f limit b is enough mem init input) (l w f limit b is enough mem init input) w limit (omega arith) (omega arith) (λ t made m. refl) f b (main_is w f limit b is enough mem init input) is.named f 0 text_start c.0 0 c.0 (end_of text_start (whole_code w f b)) stop fuel input (Num 0) (blank w input) (first w f limit b is enough mem init input) c.1 c.2 (begins_at_once w input is.no_statics) (agrees_first w f limit b is enough mem init input) refl refl status s run_is

pub whole_stops : WholeStops
whole_stops w f limit b is enough mem init input stop fuel s run_is =
    let c = split w f limit b is enough mem init input in
    stops_alike (p w f limit b is enough mem init input) (l w f limit b is enough mem init input) w limit (omega arith) (omega arith) (λ t made m. refl) f b (main_is w f limit b is enough mem init input) is.named f 0 text_start c.0 0 c.0 (end_of text_start (whole_code w f b)) stop fuel input (Num 0) (blank w input) (first w f limit b is enough mem init input) c.1 c.2 (begins_at_once w input is.no_statics) (agrees_first w f limit b is enough mem init input) refl refl refl s run_is
