use Rattle.std.proofs.Common.{◌∙◌, false}
use Rattle.rdb_reader.proofs.Fetched.{fetched, not_fetched, none_begun, none_taken, taken_of, counts_both, not_sure}
use Rattle.rdb_reader.proofs.fetch.fetch.Goals as goal

pub returns-in-Err : goal.returns-in-Err
returns-in-Err g c = record { fetches = tt; few = none_begun _ _ c.args.name.now c.args.limit _ c.in-Err.ensures; counts = (c.in-Err.ensures.tally.err, λ h. not_sure (c.in-Err.ensures.tally.sure h)) }

pub returns-in-Err-vec : goal.returns-in-Err-vec
returns-in-Err-vec g c = record { fetches = tt; few = none_taken _ _ c.args.name.now c.args.limit _ c.in-Ok.ensures; counts = c.in-Ok.ensures.tally.ok }

pub take_all-requires-clause-room : goal.take_all-requires-clause-room
take_all-requires-clause-room g c = c.deref_mut.ensures.len ∙ c.in-Ok-vec.ensures.len

pub take_all-requires-clause-none : goal.take_all-requires-clause-none
take_all-requires-clause-none g c = c.new-bytes.ensures.len

pub returns-in-Ok-take_all : goal.returns-in-Ok-take_all
returns-in-Ok-take_all g c =
    let f = c.in-Ok-take_all.ensures.fetches in
    record {
      few = taken_of _ _ c.args.name.now c.args.limit _ c.in-Ok.ensures _ false c.in-Ok-take_all.ensures.begun c.in-Ok-take_all.ensures.few;
      fetches = (fetched _ _ c.args.name.now c.args.limit _ c.in-Ok.ensures c.take_all.new.bytes.items f.0, f.1);
      counts = c.in-Ok-take_all.ensures.counts ∙ c.in-Ok.ensures.tally.ok;
    }

pub returns : goal.returns
returns g c = record {
  few = taken_of _ _ c.args.name.now c.args.limit _ c.in-Ok.ensures _ _ c.in-Err-take_all.ensures.begun c.in-Err-take_all.ensures.few;
  fetches = not_fetched _ _ c.args.name.now c.args.limit _ c.in-Ok.ensures c.take_all.new.bytes.items c.in-Err-take_all.fault c.in-Err-take_all.ensures.fetches;
  counts = counts_both _ _ c.args.name.now c.args.limit _ c.in-Ok.ensures _ c.in-Err-take_all.fault c.in-Err-take_all.ensures.counts;
}
