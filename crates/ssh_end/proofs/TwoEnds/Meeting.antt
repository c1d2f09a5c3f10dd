-- Two ends that were made, as a pair.
use Rattle.std.proofs.Common.{◌≡◌, ℕ, List, [], ◌∷◌, ◌++◌, append-nil, ap, sym, ◌∙◌, subst}
use Rattle.ssh_model.specs.State.End.Pair.{PairOpened}
use Rattle.ssh_model.specs.Protocol.KeyExchange.Exchanges.{Material, fed}
use Rattle.ssh_model.specs.Protocol.Sessions.Events.{PutsOut, World}
use Rattle.ssh_model.specs.Protocol.Sessions.Items.{Done, Item}
use Rattle.ssh_model.specs.Protocol.Sessions.Parties.{AreLawful, Parties}
use Rattle.ssh_model.specs.Protocol.Sessions.Turns.{Run}
use Rattle.ssh_model.specs.declared.side.Side.{Side}
use Rattle.ssh_model.specs.declared.side.Side.TheVariants.{Client, Server}
use Rattle.ssh_model.specs.Protocol.Side.{done_by, part, peer}
use Rattle.ssh_end_machine.specs.Places.{StandsAfter}
use Rattle.ssh_end.specs.TwoEnds.Items.{Records}
use Rattle.ssh_end.specs.TwoEnds.Playing.{Opens, Output, PairOpens, Promises, output_of}
use Rattle.ssh_end.specs.TwoEnds.Standing.{Both, EndStands, Standing, on, state_in}
use Rattle.ssh_end.specs.declared.item.Done as declared
use Rattle.ssh_end.proofs.TwoEnds.Playing.{states}

-- an end that has opened stands after its part of a run that is its opening
stands_first : {K : Type 0} (p : Parties K) (side : Side) (material : Material) (v : Standing K) (log_old log_new : List declared.Done) (out_old out_new : List ℕ) (sent : List (List ℕ)) (run : List Done) (x : Opens p side material v log_old log_new out_old out_new sent) → part side run ≡ x.made.items → EndStands p side v run
stands_first p side material v log_old log_new out_old out_new sent run x is = subst (λ (h : List Item). StandsAfter p side (v.parts p) (v.layers p) h v.machine (state_in v)) (sym is) x.made.place

module _ {K : Type 0} (p : Parties K) (pair : Both K)
    (there : (side : Side) (items : List Item) (run : List Done) → part (peer side) (done_by side items ++ run) ≡ part (peer side) run)
    (here : (side : Side) (items : List Item) (run : List Done) → part side (done_by side items ++ run) ≡ items ++ part side run)
    (of_client of_server : Material) (mid log : List declared.Done) (out : Output) (client_sent server_sent : List (List ℕ))
    (client : Opens p Client of_client pair.client [] mid [] out.client client_sent) (server : Opens p Server of_server pair.server mid log [] out.server server_sent) where
  abbrev run : List Done
  run = done_by Server server.made.items ++ done_by Client client.made.items

  abbrev world : World
  world = record { run = run; client_rest = []; server_rest = [] }

  client_run : done_by Client client.made.items ++ [] ≡ done_by Client client.made.items
  client_run = append-nil (done_by Client client.made.items)

  client_part : part Client run ≡ client.made.items
  client_part = there Server server.made.items (done_by Client client.made.items) ∙ (ap (λ (r : List Done). part Client r) (sym client_run) ∙ (here Client client.made.items [] ∙ append-nil client.made.items))

  server_part : part Server run ≡ server.made.items
  server_part = here Server server.made.items (done_by Client client.made.items) ∙ (ap (λ (h : List Item). server.made.items ++ h) (ap (λ (r : List Done). part Server r) (sym client_run) ∙ there Client client.made.items []) ∙ append-nil server.made.items)

  stand : (side : Side) → EndStands p side (on side pair) run
  stand Client = stands_first p Client of_client pair.client [] mid [] out.client client_sent run client client_part
  stand Server = stands_first p Server of_server pair.server mid log [] out.server server_sent run server server_part

  puts : (side : Side) → PutsOut p side (part side run) (output_of side out)
  puts Client = subst (λ (h : List Item). PutsOut p Client h out.client) (sym client_part) (subst (λ (l : List ℕ). PutsOut p Client client.made.items l) (sym client.made.out) client.made.opened.puts)
  puts Server = subst (λ (h : List Item). PutsOut p Server h out.server) (sym server_part) (subst (λ (l : List ℕ). PutsOut p Server server.made.items l) (sym server.made.out) server.made.opened.puts)

  pub met : PairOpened p world (states pair) → ((run : List Done) → AreLawful p → Run p run → Promises p run) → PairOpens p of_client of_server pair log out
  met opened law = record {
    world = world;
    first = opened.first;
    client_fed = subst (λ (h : List Item). fed h ≡ of_client ∷ []) (sym client_part) client.made.material_is;
    server_fed = subst (λ (h : List Item). fed h ≡ of_server ∷ []) (sym server_part) server.made.material_is;
    stands = record { run = opened.sums.run; ends = stand; rest = elim [ Client ↦ sym client.buffered | Server ↦ sym server.buffered ] };
    records = server.records (done_by Client client.made.items) (subst (λ (r : List Done). Records mid r) client_run (client.records [] Records.nothing));
    puts = puts;
    promises = law _ client.made.place.lawful opened.sums.run;
  }
