use Rattle.std.proofs.Common.{◌++◌, [], ◌∷◌, map, sym, ap, subst, ◌∙◌}
use Rattle.std.specs.List.{All}
use Rattle.std.proofs.lemmas.List.{map-append}
use Rattle.std.proofs.lemmas.List.Elements.{All-push}
use Rattle.session_desk.specs.Kept.{kept_of, all_kept, session_at, new_kept}
use Rattle.session_desk.specs.Watching.{IsWithin, IsSilent}
use Rattle.session_desk.proofs.Lists.{pushed_none}
use Rattle.session_desk.proofs.desk.make_room.Goals as goal

pub rooms-preserved : goal.rooms-preserved
rooms-preserved g c =
    let items = c.rooms.sessions.items in
    record {
      kept = λ told other.
          ap (λ l. session_at (all_kept told l) other) c.in_ok-push.ensures.items
          ∙ ap (λ l. session_at l other) (map-append (kept_of told) items (c.new.result ∷ []))
          ∙ ap (λ k. session_at (map (kept_of told) items ++ k ∷ []) other) (c.new.ensures.kept told)
          ∙ pushed_none (map (kept_of told) items) other new_kept
          ∙ c.rooms.invariant.kept told other;
      within = subst (All IsWithin) (sym c.in_ok-push.ensures.items) (All-push IsWithin items c.new.result c.rooms.invariant.within c.new.ensures.within);
      silent = λ none. subst (All IsSilent) (sym c.in_ok-push.ensures.items) (All-push IsSilent items c.new.result (c.rooms.invariant.silent none) c.new.ensures.watched);
    }
