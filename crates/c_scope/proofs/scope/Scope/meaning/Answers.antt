use Rattle.std.proofs.Common.{rules, ◌≡◌, List, Some, None, slice_get, length, refl, sym, ◌∙◌}
use Rattle.std.proofs.lemmas.Option.{slice_get_past, slice_get_read}
use Rattle.c_scope.specs.declared.scope.Entry.{Entry}
use Rattle.c_scope.specs.Entries.{entries_of}
use Rattle.c_scope.specs.Places.{place_of}
use Rattle.c_scope.proofs.Entered.{looked_none, looked_past, looked_some}
use Rattle.c_scope.proofs.scope.Scope.meaning.Goals as goal

pub returns-in_err-place : goal.returns-in_err-place
returns-in_err-place c =
    let es : List Entry = c.args.self.now.entries.items in
    let none : place_of c.args.name.now (entries_of es) ≡ None = sym (c.args.self.now.indexed c.args.name.now) ∙ sym c.get.ensures.value ∙ (search rules) in
    let e = looked_none c.args.name.now es none in
    record { value = search rules }

pub returns-in_err-entry : goal.returns-in_err-entry
returns-in_err-entry c =
    let es : List Entry = c.args.self.now.entries.items in
    let some : place_of c.args.name.now (entries_of es) ≡ Some c.in_ok-place.place.now = sym (c.args.self.now.indexed c.args.name.now) ∙ sym c.get.ensures.value ∙ (search rules) in
    let none : slice_get es c.in_ok-place.place.now ≡ None = slice_get_past es c.in_ok-place.place.now (search rules) in
    let e = looked_past c.args.name.now es c.in_ok-place.place.now some none in
    record { value = search rules }

pub returns : goal.returns
returns c =
    let es : List Entry = c.args.self.now.entries.items in
    let some : place_of c.args.name.now (entries_of es) ≡ Some c.in_ok-place.place.now = sym (c.args.self.now.indexed c.args.name.now) ∙ sym c.get.ensures.value ∙ (search rules) in
    let entry : slice_get es c.in_ok-place.place.now ≡ Some c.in_ok-entry.entry.now = slice_get_read es (length es) c.in_ok-place.place.now c.in_ok-entry.entry.now refl (search rules) (search rules) in
    record { value = sym (looked_some c.args.name.now es c.in_ok-place.place.now c.in_ok-entry.entry.now some entry) }
