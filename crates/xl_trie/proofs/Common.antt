-- What the proofs of this crate speak of: definitions of the crate and of those below it, and lemmas on numbers, truth values and lists.
pub use Rattle.std.proofs.lemmas.Bool.{and_from, and_parts, both_ways, cases_Bool, cases_eq, cases_lt, cond_both, eq-eqb, eqb-false, eqb-true, le-ltb, lt-ltb, ltb-false, ltb-true, ne_eqb, not-true, not_from_false, or_cases, or_left, or_right}
pub use Rattle.std.proofs.lemmas.Cmp.{nat_cmp_total, nat_list_cmp_total, on_total, then_total, upto}
pub use Rattle.std.proofs.lemmas.Fn.{filter_same}
pub use Rattle.std.proofs.lemmas.List.{drop-append-le, get_or-replicate, get_or_past, length-append, length-drop, length-map, length-replicate, length-take-le, take-append-le, take-take, take_all}
pub use Rattle.std.proofs.lemmas.List.Filters.{length-filter_both}
pub use Rattle.std.proofs.lemmas.List.Folds.{list_any_at, list_any_more}
pub use Rattle.std.proofs.lemmas.List.FromFn.{get_or-range_with_len, length-range_with_len}
pub use Rattle.std.proofs.lemmas.List.Sums.{count_by-le-length, sum_by-cons}
pub use Rattle.std.proofs.lemmas.Map.Lookups.{exact_bytes}
pub use Rattle.std.proofs.lemmas.Option.{get_or_from_slice_get, slice_get-get_or, slice_get_within}
pub use Rattle.std.proofs.Math.Seq.{take-length}
pub use Rattle.std.specs.Cmp.{IsTotalOrder}
pub use Rattle.std.specs.List.{count_by, list_all, list_any, range_with_len}
pub use Rattle.std.specs.Ordering.{is_gt, nat_cmp, ordering_reverse, ordering_then}
pub use Rattle.std.specs.Prelude.{IfSome, find, map, max, nat_lt}
pub use Rattle.std.specs.declared.cmp.Ordering.{Ordering}
pub use Rattle.std.specs.declared.cmp.Ordering.TheVariants.{Equal, Greater, Less}
pub use Rattle.xl_base.specs.declared.ids.LedgerId.{LedgerId}
pub use Rattle.xl_ledger.proofs.ChainLaws.{HasParent, chain_ends, chain_more, chain_of_root, earlier_differs, length-chain, of_chain, parent_known, parent_of_known, seq_of_added, seq_of_root}
pub use Rattle.xl_ledger.proofs.Places.{slice_get-front}
pub use Rattle.xl_ledger.proofs.TableLaws.{same_self}
pub use Rattle.xl_ledger.specs.Chains.{AreLedgers, chain, common_of, id_at, last_common, parent_of, seq_at}
pub use Rattle.xl_ledger.specs.Votes.{best_of, branch_of, candidates, follows, has_voted, id_rank, is_on_chain, margin, next_of, or_stay, others, prefer, rank, tip_of, uncommitted, unless_too_few, without}
pub use Rattle.xl_ledger.specs.Walks.{Walked}
pub use Rattle.xl_ledger.specs.declared.header.Header.{Header}
pub use Rattle.xl_ledger.specs.declared.vote.Vote.{Vote}
pub use Rattle.xl_pool.proofs.Counting.{counts, live-set}
pub use Rattle.xl_pool.proofs.Finding.{Updates-without_value, found_within, given_own, of_found}
pub use Rattle.xl_pool.specs.Pools.{Slot, Updates, empty_slot, get, live, slot_at, without_value}
pub use Rattle.xl_pool.specs.declared.name.Name.{Name}
pub use Rattle.xl_trie.specs.Changing.{IsMerged, IsSplit, leaf_of}
pub use Rattle.xl_trie.specs.Counted.{is_spot, spots}
pub use Rattle.xl_trie.specs.Counting.{AreRecounted, IsChange, changed_count, with_counts}
pub use Rattle.xl_trie.specs.Leading.{BeginsAt, EndsAt, GoesTo, IsBest, IsBestSoFar, NoneBegins, lead, leads}
pub use Rattle.xl_trie.specs.Nodes.{AllHang, AllKids, Apart, Becomes, HasKids, In, IsBefore, IsKid, Leads, LeadsNow, hung_at, span_of, spans}
pub use Rattle.xl_trie.specs.Places.{Enters, EntersAt, IsPlace}
pub use Rattle.xl_trie.specs.Tries.{AreLinked, AreSpans, GoesWith, Hangs, HasFork, HasSpan, IsHalfNeeded, IsNeeded, IsRoot, IsTrie, IsTrieBut}
unfoldable pub use Rattle.xl_trie.specs.Ways.{IsBegin, OnWay, way}
pub use Rattle.xl_trie.specs.declared.counting.Change.{Change}
pub use Rattle.xl_trie.specs.declared.counting.Change.TheVariants.{OneFewer, OneMore}
pub use Rattle.xl_trie.specs.declared.node.Node.{Node}
pub use Rattle.xl_trie.specs.declared.node.Span.{Span}
pub use Rattle.xl_trie.specs.declared.seeking.Place.{Place}
