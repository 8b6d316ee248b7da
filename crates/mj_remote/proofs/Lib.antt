mod Chosen
mod Outcomes
mod Attempts
