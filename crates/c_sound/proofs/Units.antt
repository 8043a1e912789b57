-- A typed unit suits.
use Rattle.std.proofs.Common.{◌≡◌, ℕ, suc, ◌+◌, List, [], ◌∷◌, ◌++◌, length, None, Bool, true, false, refl, sym, ap, ◌∙◌, subst, arith, append_assoc, append-nil, length-append}
use Rattle.std.specs.List.{flat_map}
use Rattle.c_type.specs.Types.{CType, num, void, ptr, arr, struct, union, enum, fun, Tag}
use Rattle.c_tree.specs.TreeDecl as ud
use Rattle.c_tree.specs.TreeStmt.{Block}
use Rattle.c_tree.specs.TreeUnit as uu
use Rattle.c_tree.specs.TStmt.{Declr, locals}
use Rattle.c_tree.specs.TUnit as t
use Rattle.c_tree.specs.TUnit.{ParDecl, Func, TExt, funcs_of}
use Rattle.c_run.specs.Mentions.{Mention, in_declr, in_local, in_stmts, in_spec, in_pars, in_item, in_ext, in_exts}
use Rattle.c_rule.specs.RuleNames.{types_of, storage_of, body_in_ext}
use Rattle.c_rule.specs.RuleScope.{Env, Function, function_ref, started}
use Rattle.c_rule.specs.RuleTypes.{is_function, may_return, functions_return}
use Rattle.c_rule.specs.RuleStmts.{is_static}
use Rattle.c_rule.specs.RuleUnit.{IsBody, IsExt, AreExts, list_of, declared_in, in_body, at_body, parameters, at_first}
use Rattle.c_sound.specs.Unit as su
use Rattle.c_sound.specs.Unit.{Declares, IsMeant, AnyText, SuitFuncs, SuitMentions}
use Rattle.c_sound.specs.Suits.{SuitsFunc}
use Rattle.c_sound.specs.Program.{HaveSizes}
use Rattle.c_sound.specs.Laws.{TypedSuits}
use Rattle.c_sound.proofs.Stands.{IsSane, IsDeclared, SaneTags, Stands, function_meant}
use Rattle.c_sound.proofs.RuleSuits.{returned_void}
use Rattle.c_sound.proofs.MentionSuits.{Among, among_parts, among_told, both_mention, all_mention, declr_mentions, spec_mentions}
use Rattle.c_sound.proofs.Told.{exts_tell}
use Rattle.c_sound.proofs.StmtSuits.{declr_sane, decls_suit, stmts_suit}
use Rattle.c_sound.proofs.Declarations.{same_grows, def_grows, types_or_int_grow}
use Rattle.c_sound.proofs.FileSuits.{AreDeclared, file_stands, aliases_stand, par_decls_grow, parameters_mean, items_suit}
use Rattle.std.proofs.lemmas.Bool.{and_parts}

-- what a function returns is no function
returned_object : (r : CType) → may_return r ≡ true → is_function r ≡ false
returned_object (num k) h = refl
returned_object void h = refl
returned_object (ptr t) h = refl
returned_object (arr m t) h = refl
returned_object (struct k) h = refl
returned_object (union k) h = refl
returned_object (enum k) h = refl
returned_object (fun t) h = cc

sizes_there : (n : ℕ) (ts : List Tag) → SaneTags n ts → HaveSizes ts
sizes_there n [] h = tt
sizes_there n (t ∷ ts) h = (h.0, sizes_there (suc n) ts h.2)

-- bodies

ext_count : (c : Env) (y : uu.Ext) (x : TExt) (f : Env) → IsExt c y x f → length (body_in_ext y) ≡ length (funcs_of (x ∷ []))
ext_count c (uu.typedef l y ds) x f (s, base, xs, c1, h, k, q) = subst (λ z. 0 ≡ length (funcs_of (z ∷ []))) (sym q) refl
ext_count c (uu.tag_only l (ud.ref r)) x f (base, h, q, w) = subst (λ z. 0 ≡ length (funcs_of (z ∷ []))) (sym q) refl
ext_count c (uu.tag_only l (ud.body d)) x f (s, base, h, q) = subst (λ z. 0 ≡ length (funcs_of (z ∷ []))) (sym q) refl
ext_count c (uu.object l s is) x f (y, base, xs, c1, h, k, q) = subst (λ z. 0 ≡ length (funcs_of (z ∷ []))) (sym q) refl
ext_count c (uu.func l s h ps b) x f (y, base, d, g, c1, ht, hd, hb, q) = subst (λ z. 1 ≡ length (funcs_of (z ∷ []))) (sym q) refl

funcs_more : (x : TExt) (xs : List TExt) → funcs_of (x ∷ xs) ≡ funcs_of (x ∷ []) ++ funcs_of xs
funcs_more (t.typedef s ds) xs = refl
funcs_more (t.tag_only s) xs = refl
funcs_more (t.object s is) xs = refl
funcs_more (t.func s f) xs = refl

exts_count : (c : Env) (ys : List uu.Ext) (xs : List TExt) (f : Env) → AreExts c ys xs f → length (flat_map body_in_ext ys) ≡ length (funcs_of xs)
exts_count c [] xs f (q, w) = subst (λ z. 0 ≡ length (funcs_of z)) (sym q) refl
exts_count c (y ∷ ys) xs f (x, rest, c1, h, k, q) =
    let a : length (body_in_ext y ++ flat_map body_in_ext ys) ≡ length (body_in_ext y) + length (flat_map body_in_ext ys) = length-append (body_in_ext y) (flat_map body_in_ext ys) in
    let b : length (funcs_of (x ∷ rest)) ≡ length (funcs_of (x ∷ [])) + length (funcs_of rest) = ap length (funcs_more x rest) ∙ length-append (funcs_of (x ∷ [])) (funcs_of rest) in
    let p : length (body_in_ext y) ≡ length (funcs_of (x ∷ [])) = ext_count c y x c1 h in
    let r : length (flat_map body_in_ext ys) ≡ length (funcs_of rest) = exts_count c1 ys rest f k in
    subst (λ z. length (body_in_ext y ++ flat_map body_in_ext ys) ≡ length (funcs_of z)) (sym q) (omega arith)

module _ (n : ℕ) (ks : Declares) where
  abbrev Mentioned : List Tag → List Mention → Type 0
  Mentioned ts ms = SuitMentions (IsMeant n ks) AnyText ts ms

  declrs_mentioned : (ts : List Tag) (ds : List Declr) → Mentioned ts (flat_map in_declr ds)
  declrs_mentioned ts ds = all_mention n ks ts in_declr ds (declr_mentions n ks ts)

  pars_mentioned : (ts : List Tag) (ps : List ParDecl) → Mentioned ts (flat_map in_pars ps)
  pars_mentioned ts ps = all_mention n ks ts in_pars ps (λ p. both_mention n ks ts (in_spec p.spec) (flat_map in_declr p.declrs) (spec_mentions n ks ts p.spec) (declrs_mentioned ts p.declrs))

  -- functions

  in_body_stands : (ts : List Tag) (h : ud.Declr) (ys : List ParDecl) (c : Env) → Stands n ks ts c → AreDeclared n ks (declared_in ys) → Stands n ks ts (in_body (parameters h ys) c)
  in_body_stands ts h ys c g s = record { bodies = g.bodies; blocks = (parameters_mean n ks 0 (declared_in ys) (list_of h) s, tt); file = g.file; tags = g.tags; sane = g.sane }

  end_stands : (ts : List Tag) (c : Env) → Stands n ks ts c → Stands n ks ts (record (started 1 c) { blocks = [] })
  end_stands ts c h = record { bodies = h.bodies; blocks = tt; file = h.file; tags = h.tags; sane = h.sane }

  -- what the body of a function says
  abbrev in_func : Func → List Mention
  in_func g = flat_map in_local (locals g.locals) ++ in_stmts g.stmts

  -- behind a function
  record BodyAfter (ts : List Tag) (f : Env) (g : Func) : Type 0 where
    closed : List Tag
    stands : Stands n ks (ts ++ closed) f
    suits : SuitsFunc (IsMeant n ks) AnyText g
    mentions : (more : List Tag) → Mentioned ((ts ++ closed) ++ more) (in_func g)

  body_suits : (ts : List Tag) (c : Env) (s : Bool) (h : ud.Declr) (d : Declr) (ps : List ud.ParDecl) (b : Block) (g : Func) (f : Env) → IsDeclared d.ty → Stands n ks ts c → Among ks (in_func g) →
      IsBody c s h d ps b g f → BodyAfter ts f g
  body_suits ts c s h d ps b g f z st m (c1, c2, c3, q, (c0, hp, i1, i2, hd), hl, hs, r1, r2, r3, r4, r5, r6, r7, w) =
      let z1 : IsSane (fun g.result) = subst IsSane q z.0 in
      let o = and_parts (may_return g.result) (functions_return g.result) z1.1 in
      let z2 : IsSane g.result = (z1.0, o.1, returned_void g.result z1.2) in
      let p = par_decls_grow n ks ts c (list_of h) ps g.declared c0 st hp in
      let us = ts ++ p.0.more in
      let y : is_function d.ty ≡ true = subst (λ t. is_function t ≡ true) (sym q) refl in
      let k = file_stands n ks us c0 d.name (Function s (function_ref c0 s d.name) d.ty) c1 p.0.stands (y, (function_meant n ks c0 s d.name d.ty p.0.stands.bodies y, z)) hd in
      let m1 = among_parts ks (flat_map in_local (locals g.locals)) (in_stmts g.stmts) m in
      let l = λ (more : List Tag). decls_suit n ks us more (in_body (parameters h g.declared) c1) b.decls g.locals c2 (in_body_stands us h g.declared c1 k p.1) m1.0 hl in
      let e = λ (more : List Tag). stmts_suit n ks us more c2 (at_body g.result) b.stmts g.stmts c3 z2 (l more).stands m1.1 hs in
      record {
        closed = p.0.more;
        stands = subst (Stands n ks us) (sym w) (end_stands us c3 (e []).stands);
        suits = (returned_object g.result o.0, (l []).suits, (e []).suits);
        mentions = λ more. both_mention n ks (us ++ more) (flat_map in_local (locals g.locals)) (in_stmts g.stmts) (l more).mentions (e more).mentions;
      }

  -- parts

  record ExtAfter (ts : List Tag) (f : Env) (x : TExt) : Type 0 where
    closed : List Tag
    stands : Stands n ks (ts ++ closed) f
    funcs : SuitFuncs (IsMeant n ks) AnyText (funcs_of (x ∷ []))
    mentions : (more : List Tag) → Mentioned ((ts ++ closed) ++ more) (in_ext x)

  ext_suits : (ts : List Tag) (c : Env) (y : uu.Ext) (x : TExt) (f : Env) → Stands n ks ts c → Among ks (in_ext x) → IsExt c y x f → ExtAfter ts f x
  ext_suits ts c (uu.typedef l y ds) x f h m (s, base, xs, c1, g, k, q) =
      let p = types_or_int_grow n ks ts c y s base c1 h g in
      let us = ts ++ p.more in
      subst (ExtAfter ts f) (sym q) (record {
        closed = p.more;
        stands = aliases_stand n ks us c1 base ds xs f p.stands k;
        funcs = tt;
        mentions = λ more. both_mention n ks (us ++ more) (in_spec s) (flat_map in_declr xs) (spec_mentions n ks (us ++ more) s) (declrs_mentioned (us ++ more) xs);
      })
  ext_suits ts c (uu.tag_only l (ud.ref r)) x f h m (base, g, q, w) =
      let p = same_grows n ks ts f (subst (Stands n ks ts) (sym w) h) in
      subst (ExtAfter ts f) (sym q) (record { closed = p.more; stands = p.stands; funcs = tt; mentions = λ more. tt })
  ext_suits ts c (uu.tag_only l (ud.body d)) x f h m (s, base, g, q) =
      let p = def_grows n ks ts c d s base f h g in
      subst (ExtAfter ts f) (sym q) (record { closed = p.more; stands = p.stands; funcs = tt; mentions = λ more. spec_mentions n ks ((ts ++ p.more) ++ more) s })
  ext_suits ts c (uu.object l s is) x f h m (y, base, xs, c1, g, k, q) =
      let p = types_or_int_grow n ks ts c s.types y base c1 h g in
      let us = ts ++ p.more in
      let a = among_parts ks (in_spec y) (flat_map in_item xs) (subst (λ z. Among ks (in_ext z)) q m) in
      let r = λ (more : List Tag). items_suit n ks us more c1 s.storage base is xs f p.stands a.1 k in
      subst (ExtAfter ts f) (sym q) (record {
        closed = p.more;
        stands = (r []).stands;
        funcs = tt;
        mentions = λ more. both_mention n ks (us ++ more) (in_spec y) (flat_map in_item xs) (spec_mentions n ks (us ++ more) y) (r more).mentions;
      })
  ext_suits ts c (uu.func l s h ps b) x f st m (y, base, d, g, c1, ht, hd, hb, q) =
      let p = types_or_int_grow n ks ts c (types_of s) y base c1 st ht in
      let us = ts ++ p.more in
      let a = among_parts ks (in_spec y) (flat_map in_pars g.declared ++ in_func g) (subst (λ z. Among ks (in_ext z)) q m) in
      let a1 = among_parts ks (flat_map in_pars g.declared) (in_func g) a.1 in
      let r = body_suits us c1 (is_static (storage_of s)) h d ps b g f (declr_sane c1 None base h d hd) p.stands a1.1 hb in
      let e : us ++ r.closed ≡ ts ++ (p.more ++ r.closed) = append_assoc ts p.more r.closed in
      subst (ExtAfter ts f) (sym q) (record {
        closed = p.more ++ r.closed;
        stands = subst (λ z. Stands n ks z f) e r.stands;
        funcs = (r.suits, tt);
        mentions = λ more.
            let vs = (ts ++ (p.more ++ r.closed)) ++ more in
            both_mention n ks vs (in_spec y) (flat_map in_pars g.declared ++ in_func g) (spec_mentions n ks vs y)
            (both_mention n ks vs (flat_map in_pars g.declared) (in_func g) (pars_mentioned vs g.declared) (subst (λ z. Mentioned (z ++ more) (in_func g)) e (r.mentions more)));
      })

  record ExtsAfter (ts : List Tag) (f : Env) (xs : List TExt) : Type 0 where
    closed : List Tag
    stands : Stands n ks (ts ++ closed) f
    funcs : SuitFuncs (IsMeant n ks) AnyText (funcs_of xs)
    mentions : (more : List Tag) → Mentioned ((ts ++ closed) ++ more) (in_exts xs)

  both_funcs : (fs gs : List Func) → SuitFuncs (IsMeant n ks) AnyText fs → SuitFuncs (IsMeant n ks) AnyText gs → SuitFuncs (IsMeant n ks) AnyText (fs ++ gs)
  both_funcs [] gs h g = g
  both_funcs (x ∷ xs) gs h g = (h.0, both_funcs xs gs h.1 g)

  exts_suit : (ts : List Tag) (c : Env) (ys : List uu.Ext) (xs : List TExt) (f : Env) → Stands n ks ts c → Among ks (in_exts xs) → AreExts c ys xs f → ExtsAfter ts f xs
  exts_suit ts c [] xs f h m (q, w) =
      let p = same_grows n ks ts f (subst (Stands n ks ts) (sym w) h) in
      subst (ExtsAfter ts f) (sym q) (record { closed = p.more; stands = p.stands; funcs = tt; mentions = λ more. tt })
  exts_suit ts c (y ∷ ys) xs f h m (x, rest, c1, hx, hr, q) =
      let a = among_parts ks (in_ext x) (in_exts rest) (subst (λ z. Among ks (in_exts z)) q m) in
      let p = ext_suits ts c y x c1 h a.0 hx in
      let us = ts ++ p.closed in
      let r = exts_suit us c1 ys rest f p.stands a.1 hr in
      let e : us ++ r.closed ≡ ts ++ (p.closed ++ r.closed) = append_assoc ts p.closed r.closed in
      subst (ExtsAfter ts f) (sym q) (record {
        closed = p.closed ++ r.closed;
        stands = subst (λ z. Stands n ks z f) e r.stands;
        funcs = subst (SuitFuncs (IsMeant n ks) AnyText) (sym (funcs_more x rest)) (both_funcs (funcs_of (x ∷ [])) (funcs_of rest) p.funcs r.funcs);
        mentions = λ more.
            let d : us ++ (r.closed ++ more) ≡ (ts ++ (p.closed ++ r.closed)) ++ more = sym (append_assoc us r.closed more) ∙ ap (λ z. z ++ more) e in
            both_mention n ks ((ts ++ (p.closed ++ r.closed)) ++ more) (in_ext x) (in_exts rest)
            (subst (λ z. Mentioned z (in_ext x)) d (p.mentions (r.closed ++ more)))
            (subst (λ z. Mentioned (z ++ more) (in_exts rest)) e (r.mentions more));
      })

pub typed_suits : TypedSuits
typed_suits y x h =
    let n = length (funcs_of x.exts) in
    let ks = su.declared_in x in
    let first : Stands n ks [] (at_first y) = record { bodies = exts_count (at_first y) y.exts x.exts h.last h.parts; blocks = tt; file = tt; tags = refl; sane = tt } in
    let m = among_told ks.object (in_exts x.exts) (exts_tell (at_first y) y.exts x.exts h.last h.parts) in
    let r = exts_suit n ks [] (at_first y) y.exts x.exts h.last first m h.parts in
    let e : r.closed ≡ x.tags = sym r.stands.tags ∙ sym h.tags in
    record {
      sizes = subst HaveSizes e (sizes_there 0 r.closed r.stands.sane);
      funcs = r.funcs;
      begins = subst (λ z. SuitMentions (IsMeant n ks) AnyText z (in_exts x.exts)) (append-nil r.closed ∙ e) (r.mentions []);
    }
