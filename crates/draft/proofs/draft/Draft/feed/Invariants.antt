use Rattle.std.proofs.Common.{◌≡◌, ◌+◌, ◌≤◌, ◌++◌, length, drop, vec_items, vec_len, vec_capacity}
use Rattle.draft.specs.Edits.{fed, answers}
use Rattle.draft.proofs.draft.Draft.feed.Given as goal

abbrev pub invariant-loop-edit : goal.invariant-loop-edit
invariant-loop-edit l = record {
  lines : fed (drop l.edit-index l.edits) l.self ≡ fed l.edits l.initial.self;
  said : vec_items l.said ++ answers (drop l.edit-index l.edits) l.self ≡ vec_items l.initial.said ++ answers l.edits l.initial.self;
  count : vec_len l.said ≡ vec_len l.initial.said + l.edit-index;
  few : length l.initial.self ≤ 96 → length l.self ≤ 96;
  room : vec_capacity l.said ≡ vec_capacity l.initial.said;
}
