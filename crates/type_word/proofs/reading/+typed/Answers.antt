-- The type of a word, by its outermost constructor.
use Rattle.std.proofs.Common.{◌≡◌, sym, ap, ◌∙◌, subst, Option, None, Some}
use Rattle.c_type.specs.declared.CType.{CType}
use Rattle.std.specs.Option.{option_map}
use Rattle.c_type.specs.Of.{type_of}
use Rattle.type_word.specs.Words.{TypeRec, IsRecord, IsTypeOf}
use Rattle.type_word.specs.Outer.{Outer, Num, Void, Ptr, Arr, Fun, Struct, Union, Enum, outer_of}
use Rattle.type_word.proofs.Peeled.{Peeled, outer_says}
use Rattle.type_word.proofs.Whole.{num-some, void-some, struct-some, union-some, enum-some, ptr-some, fun-some, arr-some, ptr-none, fun-none, arr-none, bad-none}
use Rattle.type_word.proofs.reading.+typed.Goals as goal
use Rattle.type_word.proofs.reading.+typed.Goals.{in-Num, in-Void, in-Struct, in-Union, in-Enum, in-Ptr+in_ok-ty-in-Ptr+in-Some+in_ok-new-in-Some, in-Ptr+in_ok-ty-in-Ptr+in-None, in-Fun+in_ok-ty-in-Fun+in-Some-2+in_ok-new-in-Some-2, in-Fun+in_ok-ty-in-Fun+in-None-2, in-Arr+in_ok-ty-in-Arr+in-Some-3+in_ok-new-in-Some-3, in-Arr+in_ok-ty-in-Arr+in-None-3, in-Bad}

-- what an outermost constructor that was met says
met : (r : TypeRec) (result o : Outer) → IsRecord r → result ≡ outer_of r → result ≡ o → Peeled r o
met r result o fits e is = let P : Outer → Type 0 = λ x. Peeled r x in subst P (sym e ∙ is) (outer_says r fits.four)

-- what a call for what is below answered, where a type was found
some_below : (q : TypeRec) (o : Option CType) (x y : CType) → IsTypeOf q (option_map type_of o) → o ≡ Some x → y ≡ x → IsTypeOf q (Some (type_of y))
some_below q o x y h is same = let P : Option CType → Type 0 = λ v. IsTypeOf q (option_map type_of v) in subst P (is ∙ ap Some (sym same)) h

-- and where none was
none_below : (q : TypeRec) (o : Option CType) → IsTypeOf q (option_map type_of o) → o ≡ None → IsTypeOf q None
none_below q o h is = let P : Option CType → Type 0 = λ v. IsTypeOf q (option_map type_of v) in subst P is h

pub returns : goal.returns
returns t c =
    elim c.match-outer.branch [
      | in-Num w ↦ rw w.found-is (num-some w.in-Num.kind c.args.r (met c.args.r c.outer.result (Num w.in-Num.kind) c.outer.ensures.widths c.outer.ensures.value w.in-Num.is))
      | in-Void w ↦ rw w.found-is (void-some c.args.r (met c.args.r c.outer.result Void c.outer.ensures.widths c.outer.ensures.value w.in-Void.is))
      | in-Struct w ↦ rw w.found-is (struct-some w.in-Struct.tag c.args.r (met c.args.r c.outer.result (Struct w.in-Struct.tag) c.outer.ensures.widths c.outer.ensures.value w.in-Struct.is))
      | in-Union w ↦ rw w.found-is (union-some w.in-Union.tag c.args.r (met c.args.r c.outer.result (Union w.in-Union.tag) c.outer.ensures.widths c.outer.ensures.value w.in-Union.is))
      | in-Enum w ↦ rw w.found-is (enum-some w.in-Enum.tag c.args.r (met c.args.r c.outer.result (Enum w.in-Enum.tag) c.outer.ensures.widths c.outer.ensures.value w.in-Enum.is))
      | in-Ptr+in_ok-ty-in-Ptr+in-Some+in_ok-new-in-Some w ↦ rw w.found-is (ptr-some (type_of w.in_ok-new-in-Some.field-0.value) c.args.r w.in-Ptr.target c.outer.ensures.widths
          (met c.args.r c.outer.result (Ptr w.in-Ptr.target) c.outer.ensures.widths c.outer.ensures.value w.in-Ptr.is)
          (some_below w.in-Ptr.target w.in_ok-ty-in-Ptr.field-0 w.in-Some.ty w.in_ok-new-in-Some.field-0.value w.in_ok-ty-in-Ptr.ensures w.in-Some.is w.in_ok-new-in-Some.ensures.ok))
      | in-Ptr+in_ok-ty-in-Ptr+in-None w ↦ rw w.found-is (ptr-none c.args.r w.in-Ptr.target (sym c.outer.ensures.value ∙ w.in-Ptr.is)
          (none_below w.in-Ptr.target w.in_ok-ty-in-Ptr.field-0 w.in_ok-ty-in-Ptr.ensures w.in-None.is))
      | in-Fun+in_ok-ty-in-Fun+in-Some-2+in_ok-new-in-Some-2 w ↦ rw w.found-is (fun-some (type_of w.in_ok-new-in-Some-2.field-0.value) c.args.r w.in-Fun.outcome c.outer.ensures.widths
          (met c.args.r c.outer.result (Fun w.in-Fun.outcome) c.outer.ensures.widths c.outer.ensures.value w.in-Fun.is)
          (some_below w.in-Fun.outcome w.in_ok-ty-in-Fun.field-0 w.in-Some-2.ty w.in_ok-new-in-Some-2.field-0.value w.in_ok-ty-in-Fun.ensures w.in-Some-2.is w.in_ok-new-in-Some-2.ensures.ok))
      | in-Fun+in_ok-ty-in-Fun+in-None-2 w ↦ rw w.found-is (fun-none c.args.r w.in-Fun.outcome (sym c.outer.ensures.value ∙ w.in-Fun.is)
          (none_below w.in-Fun.outcome w.in_ok-ty-in-Fun.field-0 w.in_ok-ty-in-Fun.ensures w.in-None-2.is))
      | in-Arr+in_ok-ty-in-Arr+in-Some-3+in_ok-new-in-Some-3 w ↦ rw w.found-is (arr-some w.in-Arr.n (type_of w.in_ok-new-in-Some-3.field-0.value) c.args.r w.in-Arr.element c.outer.ensures.widths
          (met c.args.r c.outer.result (Arr w.in-Arr.n w.in-Arr.element) c.outer.ensures.widths c.outer.ensures.value w.in-Arr.is)
          (some_below w.in-Arr.element w.in_ok-ty-in-Arr.field-0 w.in-Some-3.ty w.in_ok-new-in-Some-3.field-0.value w.in_ok-ty-in-Arr.ensures w.in-Some-3.is w.in_ok-new-in-Some-3.ensures.ok))
      | in-Arr+in_ok-ty-in-Arr+in-None-3 w ↦ rw w.found-is (arr-none w.in-Arr.n c.args.r w.in-Arr.element (sym c.outer.ensures.value ∙ w.in-Arr.is)
          (none_below w.in-Arr.element w.in_ok-ty-in-Arr.field-0 w.in_ok-ty-in-Arr.ensures w.in-None-3.is))
      | in-Bad w ↦ rw w.found-is (bad-none c.args.r (sym c.outer.ensures.value ∙ w.in-Bad.is))
    ]
