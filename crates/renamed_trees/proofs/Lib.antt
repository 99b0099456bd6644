mod Heights
mod Terminals
mod Renamed
mod Refused
