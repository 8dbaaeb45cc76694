use Rattle.std.proofs.Common.{◌≡◌, [], refl, sym, subst}
use Rattle.std.specs.Prelude.{IsTrue}
use Rattle.blocks.specs.Blocks.{Changes, no_step}
use Rattle.blocks.proofs.Serve.{served_then}
use Rattle.listpack.specs.Pack.{texts}
use Rattle.object_codec.specs.Forms.{IsLeast}
use Rattle.pack_pairs.specs.Pairs.{paired, map_of_pairs}
use Rattle.hash_object.specs.declared.fields.Body.{Body}
use Rattle.hash_object.specs.Maps.{FitsFields}
use Rattle.hash_object.specs.Fields.{IsChanged, fields_of, listed_of, refs_of_body, form_of_body}
use Rattle.hash_object.proofs.Whole.{whole_changed, whole_order, whole_form}
use Rattle.hash_object.proofs.fields.Fields.take_pack.Goals as goal

pub returns-then-not-is_fresh : goal.returns-then-not-is_fresh
returns-then-not-is_fresh g c =
    let is = c.is_fresh.ensures (g.B.BlockStore.blocks c.args.store.now) c.requires in
    record {
      taken = (λ h. absurd cc, λ can. subst IsTrue c.if-not-is_fresh.true (is.1 (can.packed, can.fresh)));
      set = λ h. absurd cc;
      order = λ h. absurd cc;
      form = λ h. absurd cc;
      served = no_step;
      same_fields = λ h. refl;
      same_blocks = λ h. refl;
      err_fields = tt;
      err_blocks = tt;
    }

pub returns-in-Some : goal.returns-in-Some
returns-in-Some g c =
    let m = g.B.BlockStore.blocks c.args.store.now in
    let mid = g.B.BlockStore.blocks c.place_whole.new.store in
    let n = g.B.BlockStore.blocks c.release.new.store in
    let self = c.args.self.now in
    let xs = texts c.args.pack.now.bytes.now in
    let fresh = (c.is_fresh.ensures m c.requires).0 c.if-not-is_fresh.false in
    let p = rw c.in-Some.is at c.in_ok-body.ensures.placed in
    let released : Changes mid n (refs_of_body self.body) [] = subst (λ (b : Body). Changes mid n (refs_of_body b) []) c.replace.ensures.value c.release.ensures.changes in
    record {
      taken = (λ h. record { packed = fresh.0; fresh = fresh.1; packable = p.packable }, λ can. refl);
      set = λ h. subst (λ (b : Body). IsChanged m n self (record self { body = b }) (map_of_pairs (paired xs))) (sym c.replace.ensures.after)
          (whole_changed m mid n self xs c.in-Some.body c.requires fresh.0 p released);
      order = λ h. subst (λ (b : Body). listed_of n b ≡ paired xs) (sym c.replace.ensures.after) (whole_order m mid n self xs c.in-Some.body c.requires fresh.0 p released);
      form = λ h. subst (λ (b : Body). IsLeast (FitsFields self.limits (fields_of n b)) (form_of_body b)) (sym c.replace.ensures.after)
          (whole_form m mid n self xs c.in-Some.body c.requires fresh.0 p released);
      served = served_then _ _ _ c.place_whole.ensures.served c.release.ensures.served;
      same_fields = λ h. absurd cc;
      same_blocks = λ h. absurd cc;
      err_fields = tt;
      err_blocks = tt;
    }

pub returns-in-None : goal.returns-in-None
returns-in-None g c =
    let never = rw c.in-None.is at c.in_ok-body.ensures.none in
    record {
      taken = (λ h. absurd cc, λ can. absurd (never can.packable));
      set = λ h. absurd cc;
      order = λ h. absurd cc;
      form = λ h. absurd cc;
      served = c.place_whole.ensures.served;
      same_fields = λ h. refl;
      same_blocks = λ h. rw c.in-None.is at c.in_ok-body.ensures.none_blocks;
      err_fields = tt;
      err_blocks = tt;
    }
