-- The text of a group's parts, kind by kind.
use Rattle.std.proofs.Common.{◌≡◌, ℕ, List, [], ◌∷◌, ◌++◌, refl, sym, ap, ◌∙◌, append_assoc}
use Rattle.asm_item.specs.declared.model.DefGroup.{DefGroup}
use Rattle.asm_item.specs.Groups.{Part, ty, line, size, part_statement, further_statement, parts_text, val_parts, scl_parts, number_parts, tag_parts, dims_parts, significant, parts_of}

pub parts_text_append : (ps qs : List Part) → parts_text (ps ++ qs) ≡ parts_text ps ++ parts_text qs
parts_text_append [] qs = refl
parts_text_append (p ∷ ps) qs =
    ap (λ x. further_statement (part_statement p) ++ x) (parts_text_append ps qs) ∙ sym (append_assoc (further_statement (part_statement p)) (parts_text ps) (parts_text qs))

joined : (t u v : List ℕ) (ps qs : List Part) → u ≡ t ++ parts_text ps → v ≡ u ++ parts_text qs → v ≡ t ++ parts_text (ps ++ qs)
joined t u v ps qs first second =
    second ∙ ap (λ x. x ++ parts_text qs) first ∙ append_assoc t (parts_text ps) (parts_text qs) ∙ ap (λ x. t ++ x) (sym (parts_text_append ps qs))

-- the parts of a group, put one kind behind the other
pub put_in_order : (g : DefGroup) (t0 t1 t2 t3 t4 t5 t6 t7 : List ℕ)
    → t1 ≡ t0 ++ parts_text (val_parts g.val) → t2 ≡ t1 ++ parts_text (scl_parts g.scl) → t3 ≡ t2 ++ parts_text (number_parts ty g.ty) → t4 ≡ t3 ++ parts_text (tag_parts g.tag)
    → t5 ≡ t4 ++ parts_text (number_parts line g.line) → t6 ≡ t5 ++ parts_text (number_parts size g.size) → t7 ≡ t6 ++ parts_text (dims_parts (significant g.dims))
    → t7 ≡ t0 ++ parts_text (parts_of g)
put_in_order g t0 t1 t2 t3 t4 t5 t6 t7 e1 e2 e3 e4 e5 e6 e7 =
    let a6 = joined t5 t6 t7 _ _ e6 e7 in
    let a5 = joined t4 t5 t7 _ _ e5 a6 in
    let a4 = joined t3 t4 t7 _ _ e4 a5 in
    let a3 = joined t2 t3 t7 _ _ e3 a4 in
    let a2 = joined t1 t2 t7 _ _ e2 a3 in
    joined t0 t1 t7 _ _ e1 a2
