use Rattle.ssh_transport.proofs.Placed.{transports}
use Rattle.ssh_transport.proofs.laws.places.transports_lift.Goals as goal

pub returns : goal.returns
returns g c =
    transports (record { guards = c.against_any_layers.ensures.kept; left = c.items_of_other_layers.ensures.left; taken = c.items_of_other_layers.ensures.taken; success = c.items_of_other_layers.ensures.success_taken })
    (record { guards = c.against_any_layers.ensures.kept; sent = c.items_of_other_layers.ensures.sent; success = c.items_of_other_layers.ensures.success_sent })
    (record { guards = c.against_any_layers.ensures.kept; opened = c.openings.ensures; asked = c.ask_turns.ensures.asked; disconnected = c.ask_turns.ensures.disconnected; feeds = c.ask_checks.ensures.feeds; fed = c.guesses_and_material.ensures.fed })
    _ _ _ _ c.lifts.ensures.crypto c.units_taken.ensures.taken
